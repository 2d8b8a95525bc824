-- A search among no letters finds none; and an outline that passes refusal 1 has at most the longest count of letters.
use Rattle.std.proofs.Common.{◌≡◌, ℕ, ◌≤◌, Bool, false, ltb, List, length, arith, ltb-false}
use Rattle.base.specs.Below.{first}
use Rattle.base.proofs.BelowLaws.{first-le}
use Rattle.chart.specs.Limits.{shortest, longest}
use Rattle.lattice.specs.Refusals.{bad_count}
use Rattle.lattice.proofs.WalkLaws.{or_right}

pub first-zero : (f : ℕ → Bool) → first f 0 ≡ 0
first-zero f = omega (arith, first-le f 0)

pub counted-short : (w : List ℕ) → bad_count w ≡ false → length w ≤ longest
unfolding bad_count
counted-short w h = ltb-false longest (length w) (or_right (ltb (length w) shortest) (ltb longest (length w)) h)
