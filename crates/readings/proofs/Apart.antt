-- What a computed value says about an exact one less than K away: at most -K means below 0, at least K means not below 0;
-- and an exact value at least 2 K away from 0 is decided.
use Prim.Native.Nat.{ℕ, ◌+◌, ◌*◌, ◌≤◌, ◌<◌}
use native.Mathlib.Omega.{arith}
use mathlib.Core.Path.{◌≡◌, ap}
use mathlib.Core.Bool.{true, false}
use lib.IntN.{ℤ, pos, neg_ℤ, nat_abs, ◌-ℤ◌}
use lib.Signed.{le_z}
use Rattle.base.proofs.BelowLaws.{not-held}
use Rattle.base.proofs.IntegerOrder.{up, down}
use Rattle.base.proofs.Differences.{is-self, is-neg, is-minus, le_iff}
use Rattle.base.proofs.Sizes.{size-parts}
use Rattle.convexity.specs.Inside.{not_negative}
use Rattle.convexity.proofs.Signed.{not-negative-iff}

module _ (K : ℕ) (c z : ℤ) (close : nat_abs (c -ℤ z) < K) where
  abbrev parts : (up c + down z ≤ down c + up z + nat_abs (c -ℤ z)) × (down c + up z ≤ up c + down z + nat_abs (c -ℤ z))
  parts = size-parts (is-minus (is-self c) (is-self z))

  pub far-negative : le_z c (neg_ℤ (pos K)) ≡ true → not_negative z ≡ false
  far-negative h =
      not-held (not_negative z)
      (λ n. omega (
        arith,
        parts.0,
        parts.1,
        close,
        (le_iff (is-self c) (is-neg (is-self (pos K)))).0 h,
        (not-negative-iff (is-self z)).0 n,
      ))

  pub beyond-positive : le_z (pos K) c ≡ true → not_negative z ≡ true
  beyond-positive h = (not-negative-iff (is-self z)).1 (omega (arith, parts.0, parts.1, close, (le_iff (is-self (pos K)) (is-self c)).0 h))

  pub inner-beyond : le_z (pos (2 * K)) z ≡ true → le_z (pos K) c ≡ true
  inner-beyond h =
      (le_iff (is-self (pos K)) (is-self c)).1 (omega (arith, parts.0, parts.1, close, (le_iff (is-self (pos (2 * K))) (is-self z)).0 h))

  pub outer-far : le_z z (neg_ℤ (pos (2 * K))) ≡ true → le_z c (neg_ℤ (pos K)) ≡ true
  outer-far h =
      (le_iff (is-self c) (is-neg (is-self (pos K)))).1
      (omega (arith, parts.0, parts.1, close, (le_iff (is-self z) (is-neg (is-self (pos (2 * K))))).0 h))

  -- On the edge itself
  pub level-near : z ≡ pos 0 → le_z (pos K) c ≡ false
  level-near e =
      not-held (le_z (pos K) c)
      (λ h. omega (arith, parts.0, parts.1, close, (le_iff (is-self (pos K)) (is-self c)).0 h, ap up e, ap down e))
