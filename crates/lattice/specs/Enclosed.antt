-- The cells that a closed walk encloses, by counting ups and downs (contract 2.4). For an outline they are counted along its clockwise
-- form (`block`, convexity/specs/Clockwise).
use Rattle.std.specs.Prelude.{ℕ, suc, ◌+◌, Bool, true, false, ◌&&◌, List, [], ◌∷◌, leb, eqb}
use Rattle.chart.specs.declared.Point.{Point}
use Rattle.chart.specs.Outline.{Outline}
use Rattle.lattice.specs.Chart.{step}

unfoldable pub one_if : Bool → ℕ
one_if true = 1
one_if false = 0

-- The letter a, leaving p, runs up (down) along the height of row r
unfoldable pub up_along : Point → ℕ → ℕ → Bool
up_along p a r = eqb a 1 && eqb p.row r

unfoldable pub down_along : Point → ℕ → ℕ → Bool
down_along p a r = eqb a 3 && eqb p.row (suc r)

-- The ups, and the downs, along row r in corner columns 0 to c
unfoldable pub ups : Point → List ℕ → ℕ → ℕ → ℕ
ups p [] c r = 0
ups p (a ∷ w) c r = one_if (up_along p a r && leb p.col c) + ups (step p a) w c r

unfoldable pub downs : Point → List ℕ → ℕ → ℕ → ℕ
downs p [] c r = 0
downs p (a ∷ w) c r = one_if (down_along p a r && leb p.col c) + downs (step p a) w c r

-- The cell (c, r) is enclosed if the ups outnumber the downs by exactly one
unfoldable pub encloses : Outline → ℕ → ℕ → Bool
encloses o c r = eqb (ups o.start o.letters c r) (downs o.start o.letters c r + 1)
