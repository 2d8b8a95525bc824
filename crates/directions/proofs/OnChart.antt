-- The numbers of the chart are the naturals below 255: an integer at least 0 is natural, and at most 254 is below 255.
use Prim.Native.Nat.{ℕ, ◌-◌, ◌<◌}
use native.Mathlib.Decide.{dec_lt}
use native.Mathlib.Omega.{arith}
use mathlib.Core.Path.{◌≡◌, refl}
use mathlib.Core.Bool.{true, not, and-eq-true_iff}
use lib.Dec.{T, leb}
use lib.IntN.{ℤ, pos, negsuc, nat_abs}
use lib.Signed.{le_z, non_neg}
use mir.Syntax.{w16}
use mir.Val.{Fits}
use borrow.Author.Tests.{le-leb, lt-leb}
use Rattle.base.proofs.IntegerOrder.{at-most-iff}
use Rattle.chart.specs.Limits.{side}
use Rattle.directions.specs.CornerHull.{chart_number, is_on_chart}

pub number : (z : ℤ) → chart_number z ≡ true → (n : ℕ) × (z ≡ pos n) × (n < side)
unfolding chart_number
number (pos n) e = (
  n,
  refl,
  omega (
    arith,
    (at-most-iff (pos n) (pos (side - 1))).0 ((and-eq-true_iff (le_z (pos 0) (pos n)) (le_z (pos n) (pos (side - 1)))).0 e).1,
  ),
)
number (negsuc n) e =
    absurd (omega (
      arith,
      (at-most-iff (pos 0) (negsuc n)).0 ((and-eq-true_iff (le_z (pos 0) (negsuc n)) (le_z (negsuc n) (pos (side - 1)))).0 e).0,
    ))

-- Such a number fits in 16 bits without a sign
pub number_fits : (z : ℤ) → chart_number z ≡ true → T (non_neg z) × Fits w16 (nat_abs z)
number_fits z e = let h = number z e in rw h.1 (tt, record { fits = omega (arith, h.2) })

-- A natural number is one of them unless it is too large
pub number_is : (n : ℕ) → chart_number (pos n) ≡ not (leb side n)
unfolding chart_number
number_is n =
    elim (dec_lt n side) [
      | yes h ↦ rw (le-leb 0 n (omega arith), lt-leb side n h) (le-leb n (side - 1) (omega arith))
      | no h ↦ rw (le-leb 0 n (omega arith), le-leb side n (omega arith)) (lt-leb n (side - 1) (omega arith))
    ]

pub number-on : (n : ℕ) → n < side → chart_number (pos n) ≡ true
number-on n h = rw (number_is n, lt-leb side n h)

-- A cell of the chart has two such numbers
pub on-parts : (u v : ℤ) → is_on_chart u v ≡ true → (chart_number u ≡ true) × (chart_number v ≡ true)
unfolding is_on_chart
on-parts u v e = (and-eq-true_iff (chart_number u) (chart_number v)).0 e
