-- Whole numbers in units are multiples of one positive number, so multiplication by it keeps differences, products and order.
use Prim.Native.Nat.{ℕ, ◌<◌}
use native.Mathlib.Nat.{mul-le-mul_right, le_of_mul-le-mul_right}
use native.Mathlib.Omega.{arith}
use mathlib.Core.Path.{◌≡◌}
use lib.IntN.{ℤ, pos, ◌+ℤ◌, ◌-ℤ◌, ◌*ℤ◌}
use lib.Pow.{pow_pos}
use lib.Signed.{le_z}
use lib.Ieee.{Format, low}
use Rattle.base.proofs.BelowLaws.{same_test}
use Rattle.base.proofs.IntegerOrder.{at-most-iff}
use Rattle.base.proofs.Differences.{is-self, is-unique, is-add, is-minus, is_mul, le_iff}
use Rattle.rounding.specs.Units.{in_units}

-- ---- multiples of a positive number

module _ (u : ℕ) where
  times-plus : (a b : ℤ) → (a +ℤ b) *ℤ pos u ≡ a *ℤ pos u +ℤ b *ℤ pos u
  times-plus a b =
      let m = is-self (pos u) in
      is-unique (is_mul (is-add (is-self a) (is-self b)) m) (is-add (is_mul (is-self a) m) (is_mul (is-self b) m)) (omega arith)

  times-minus : (a b : ℤ) → a *ℤ pos u -ℤ b *ℤ pos u ≡ (a -ℤ b) *ℤ pos u
  times-minus a b =
      let m = is-self (pos u) in
      is-unique (is-minus (is_mul (is-self a) m) (is_mul (is-self b) m)) (is_mul (is-minus (is-self a) (is-self b)) m) (omega arith)

  times-times : (k a : ℤ) → k *ℤ (a *ℤ pos u) ≡ k *ℤ a *ℤ pos u
  times-times k a =
      let m = is-self (pos u) in
      is-unique (is_mul (is-self k) (is_mul (is-self a) m)) (is_mul (is_mul (is-self k) (is-self a)) m) (omega arith)

  times-le : 0 < u → (a b : ℤ) → le_z (a *ℤ pos u) (b *ℤ pos u) ≡ le_z a b
  times-le some a b =
      let m = is-self (pos u) in
      same_test _ _ (le_iff (is_mul (is-self a) m) (is_mul (is-self b) m)) (
        (λ e. omega (arith, mul-le-mul_right u ((at-most-iff a b).0 e))),
        λ l. (at-most-iff a b).1 (le_of_mul-le-mul_right {k = u} (omega arith) some),
      )

-- ---- units

module _ (f : Format) where
  pub units-plus : (a b : ℤ) → in_units f (a +ℤ b) ≡ in_units f a +ℤ in_units f b
  unfolding in_units
  units-plus a b = times-plus _ a b

  pub units-minus : (a b : ℤ) → in_units f a -ℤ in_units f b ≡ in_units f (a -ℤ b)
  unfolding in_units
  units-minus a b = times-minus _ a b

  pub units-times : (k a : ℤ) → k *ℤ in_units f a ≡ in_units f (k *ℤ a)
  unfolding in_units
  units-times k a = times-times _ k a

  pub units-le : (a b : ℤ) → le_z (in_units f a) (in_units f b) ≡ le_z a b
  unfolding in_units
  units-le a b = times-le _ (omega (arith, pow_pos (low f))) a b
