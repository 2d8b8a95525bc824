-- The columns that an edge bounds, in natural numbers: between two corner cells
-- the side value at column 0 is a difference of two sums of products.
use Prim.Native.Nat.{ℕ, zero, suc, ◌+◌, ◌-◌, ◌*◌, ◌/◌, ◌≤◌, ◌<◌}
use native.Mathlib.Nat.{div-le_self, mul-le-mul}
use native.Mathlib.Decide.{dec_le}
use native.Mathlib.Omega.{arith}
use mathlib.Core.Path.{◌≡◌, refl, ap}
use lib.IntN.{ℤ, pos, negsuc, ◌+ℤ◌, ◌-ℤ◌}
use Rattle.chart.specs.Limits.{side}
use Rattle.base.proofs.IntegerOrder.{up, down}
use Rattle.base.proofs.Differences.{Is, is-self, is-unique, is-add, is-minus}
use Rattle.convexity.specs.Inside.{side_value}
use Rattle.directions.proofs.Cross.{is-cross, side-cross}
use Rattle.nesting.specs.Rows.{edge_from, edge_to}

-- ---- a difference of naturals

minus-up : (v y : ℕ) → y ≤ v → pos v -ℤ pos y ≡ pos (v - y)
minus-up v y h = is-unique (is-minus (is-self (pos v)) (is-self (pos y))) (is-self (pos (v - y))) (omega arith)

minus-down : (v y : ℕ) → v < y → pos v -ℤ pos y ≡ negsuc (y - v - 1)
minus-down v y h = is-unique (is-minus (is-self (pos v)) (is-self (pos y))) (is-self (negsuc (y - v - 1))) (omega arith)

-- ---- the first column, and the column past the last

from-level : (b : ℤ) (v y : ℕ) → v ≤ y → 0 ≡ edge_from (pos v -ℤ pos y) b
unfolding edge_from
from-level b v y h =
    elim (dec_le y v) [
      | yes l ↦ let e : v - y ≡ 0 = omega arith in rw (minus-up v y l, e)
      | no l ↦ rw (minus-down v y (omega arith))
    ]

from_inner : (d : ℤ) (b : ℕ) → 0 ≡ edge_from d (pos b)
unfolding edge_from
from_inner (pos zero) b = refl
from_inner (pos (suc n)) b = refl
from_inner (negsuc n) b = refl

to-rising : (n : ℕ) (b : ℤ) → side ≡ edge_to (pos (suc n)) b
unfolding edge_to
to-rising n b = refl

module _ (y v plus minus : ℕ) where
  pub first-level : v ≤ y → 0 ≡ edge_from (pos v -ℤ pos y) (pos plus -ℤ pos minus)
  first-level h = from-level (pos plus -ℤ pos minus) v y h

  pub first_inner : minus ≤ plus → 0 ≡ edge_from (pos v -ℤ pos y) (pos plus -ℤ pos minus)
  first_inner h = rw (minus-up plus minus h) (from_inner (pos v -ℤ pos y) (plus - minus))

  pub first-outer : y < v → plus < minus → (minus - plus - 1) / (v - y) + 1 ≡ edge_from (pos v -ℤ pos y) (pos plus -ℤ pos minus)
  unfolding edge_from
  first-outer h k =
      let e : v - y ≡ suc (v - y - 1) = omega arith in
      rw (minus-up v y (omega arith), minus-down plus minus k, e) (omega arith)

  pub end-rising : y < v → side ≡ edge_to (pos v -ℤ pos y) (pos plus -ℤ pos minus)
  end-rising h =
      let e : v - y ≡ suc (v - y - 1) = omega arith in
      rw (minus-up v y (omega arith), e) (to-rising (v - y - 1) (pos plus -ℤ pos minus))

  pub end-outer : v ≤ y → plus < minus → 0 ≡ edge_to (pos v -ℤ pos y) (pos plus -ℤ pos minus)
  unfolding edge_to
  end-outer h k =
      elim (dec_le y v) [
        | yes l ↦ let e : v - y ≡ 0 = omega arith in rw (minus-up v y l, minus-down plus minus k, e)
        | no l ↦ rw (minus-down v y (omega arith), minus-down plus minus k)
      ]

  pub end-level : y ≡ v → minus ≤ plus → side ≡ edge_to (pos v -ℤ pos y) (pos plus -ℤ pos minus)
  unfolding edge_to
  end-level h k = let e : v - y ≡ 0 = omega arith in rw (minus-up v y (omega arith), minus-up plus minus k, e)

  pub end-inner : v < y → minus ≤ plus → (plus - minus) / (y - v) + 1 ≡ edge_to (pos v -ℤ pos y) (pos plus -ℤ pos minus)
  unfolding edge_to
  end-inner h k =
      let e : y - v ≡ suc (y - v - 1) = omega arith in
      rw (minus-down v y h, minus-up plus minus k) (omega (arith, ap (λ (k : ℕ). (plus - minus) / k) e))

-- Neither is larger than the side value
pub quotient-small : (m k n : ℕ) → m < n → m / k + 1 ≤ n
quotient-small m k n h = omega (arith, div-le_self m k)

-- ---- the side value at column 0

module _ (dx dy : ℤ) (x y u v r : ℕ) (col : pos x +ℤ dx ≡ pos u) (row : pos y +ℤ dy ≡ pos v) where
  is-dx : Is dx u x
  is-dx = record { eq = omega (arith, (is-add (is-self (pos x)) (is-self dx)).eq, ap up col, ap down col) }

  is-dy : Is dy v y
  is-dy = record { eq = omega (arith, (is-add (is-self (pos y)) (is-self dy)).eq, ap up row, ap down row) }

  pub rise-is : dy ≡ pos v -ℤ pos y
  rise-is = is-unique is-dy (is-minus (is-self (pos v)) (is-self (pos y))) (omega arith)

  pub side-is : side_value dx dy (pos x) (pos y) (pos 0) (pos r) ≡ pos (u * y + x * r) -ℤ pos (v * x + u * r)
  side-is =
      rw side-cross
      (is-unique (is-cross is-dx is-dy (is-minus (is-self (pos 0)) (is-self (pos x))) (is-minus (is-self (pos r)) (is-self (pos y))))
      (is-minus (is-self (pos (u * y + x * r))) (is-self (pos (v * x + u * r)))) (omega arith))

-- On the chart a product is below 2^16
pub product_small : (a b : ℕ) → a < side → b < side → a * b ≤ 64516
product_small a b h k = let p : a ≤ 254 = omega arith in let q : b ≤ 254 = omega arith in mul-le-mul p q
