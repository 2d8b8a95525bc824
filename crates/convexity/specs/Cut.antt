-- W, whether a walk runs clockwise, and where the border is cut: W, N, E and S, and the five cut places (contract 2.1, 2.2 and 3.1 to 3.3).
use Rattle.std.specs.Prelude.{ℕ, zero, suc, ◌+◌, ◌-◌, ◌%◌, Bool, cond, ◌&&◌, ◌||◌, leb, ltb, eqb}
use Rattle.chart.specs.declared.Point.{Point}
use Rattle.chart.specs.Outline.{Outline}
use Rattle.lattice.specs.Chart.{corner_at, size, letter_at, rotated}
use Rattle.convexity.specs.Frame.{Frame, frame_of, along}

-- p comes before q as the first corner of a piece: it lies less far along the earlier letter, or equally far and less far along the later
unfoldable pub before : Frame → Point → Point → Bool
before f p q =
    ltb (along f.earlier p) (along f.earlier q) ||
    (eqb (along f.earlier p) (along f.earlier q) && ltb (along f.later p) (along f.later q))

-- The least of the numbers below n in a given order, or 0
unfoldable pub least : (ℕ → ℕ → Bool) → ℕ → ℕ
least lt zero = 0
least lt (suc n) = cond (lt n (least lt n)) n (least lt n)

-- The place whose letter leaves the first corner of piece k (counted from 0): W, N, E or S,
-- computed from the frames. specs/Corners.antt says them in plain words
unfoldable pub corner_place : Outline → ℕ → ℕ
corner_place o k = least (λ i j. before (frame_of k) (corner_at o i) (corner_at o j)) (size o)

-- The place of W; the outline started there; and the corner W
unfoldable pub west_place : Outline → ℕ
west_place o = corner_place o 0

unfoldable pub from_w : Outline → Outline
from_w o = rotated (west_place o) o

abbrev pub west : Outline → Point
west o = (from_w o).start

-- Clockwise: the letter that leaves W is 1. The outline o must start at W
unfoldable pub clockwise : Outline → Bool
clockwise o = eqb (letter_at o 0) 1

-- The index, in a list of n letters read cyclically, of the letter that is i letters after place a
unfoldable pub around : ℕ → ℕ → ℕ → ℕ
around n a i = (a + i) % n

-- The number of letters from place a on to place b, in n letters read cyclically
unfoldable pub ahead : ℕ → ℕ → ℕ → ℕ
ahead n a b = cond (leb a b) (b - a) (b + n - a)

-- The places of W, N, E, S and W again, in an outline o that starts at W
unfoldable pub cut_corner : Outline → ℕ → ℕ
cut_corner o zero = 0
cut_corner o (suc k) = cond (ltb k 3) (corner_place o (suc k)) 0

-- The five cut places of an outline o that starts at W, counted in letters from W and read
-- cyclically. Piece k (counted from 0) begins at cut k and ends at cut k + 1
unfoldable pub cut : Outline → ℕ → ℕ
cut o zero = 0
cut o (suc k) = cut o k + ahead (size o) (cut_corner o k) (cut_corner o (suc k))
