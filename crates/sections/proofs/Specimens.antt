-- The checker computes small sections: the rows of the hull in a layer, and whether they are all marked.
use Prim.Native.Nat.{ℕ, zero, suc}
use mathlib.Core.Path.{◌≡◌, refl}
use mathlib.Core.Bool.{true, false}
use lib.Dec.{lit≤}
use Rattle.base.specs.Below.{every}
use Rattle.lattice.specs.Hull.{InTriangle}
use Rattle.sections.specs.Sections.{fold, ceiling, above, low_line, high_line, full, alone, joined, joined_from, reached, whole_in, whole}
use Rattle.sections.specs.Sections.{clear}

-- Cells (0, 1), (1, 2) and (2, 0), as layer and row
three : ℕ → ℕ
three zero = 1
three (suc zero) = 2
three (suc (suc l)) = 0

three-past : ℕ → ℕ
three-past zero = 2
three-past (suc zero) = 3
three-past (suc (suc zero)) = 1
three-past (suc (suc (suc l))) = 0

-- Rows 1 and 2 of layer 1 are in the hull. The lower line goes from layer 0 to layer 2, and
-- the upper one is the end of layer 1 itself. No single pair of layers gives both
independent-lines : reached three three-past 1 ≡ record { low = 1; high = 3 }
unfolding three three-past fold ceiling above low_line high_line full alone joined joined_from reached
independent-lines = refl

independent-dent : clear three three-past ≡ false
unfolding three three-past fold ceiling above low_line high_line full alone joined joined_from reached whole_in whole clear every
independent-dent = refl

-- (1, 1) is the mean of the three, with equal weights
missing-one : InTriangle (record { col = 1; row = 1 }) (record { col = 0; row = 1 }) (record { col = 1; row = 2 })
    (record { col = 2; row = 0 })
missing-one = record { a = 1; b = 1; c = 1; above_zero = lit≤ tt; cols = refl; rows = refl }

-- Cells (0, 0) and (2, 1): the hull has no whole row in the empty layer 1
half-way : ℕ → ℕ
half-way zero = 0
half-way (suc l) = 1

half-way-past : ℕ → ℕ
half-way-past zero = 1
half-way-past (suc zero) = 0
half-way-past (suc (suc zero)) = 2
half-way-past (suc (suc (suc l))) = 0

between-rows : clear half-way half-way-past ≡ true
unfolding half-way half-way-past fold ceiling above low_line high_line full alone joined joined_from reached whole_in whole clear every
between-rows = refl

-- Cells (0, 0) and (2, 2): row 1 of the empty layer 1 is missing
slope-past : ℕ → ℕ
slope-past zero = 1
slope-past (suc zero) = 0
slope-past (suc (suc zero)) = 3
slope-past (suc (suc (suc l))) = 0

empty-layer : clear (λ l. l) slope-past ≡ false
unfolding slope-past fold ceiling above low_line high_line full alone joined joined_from reached whole_in whole clear every
empty-layer = refl
