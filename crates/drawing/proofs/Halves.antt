-- A 16-bit number plus one half has 17 binary digits. A float has 24, so nothing is rounded.
use Prim.Native.Nat.{ℕ, ◌+◌, ◌*◌, ◌^◌, ◌<◌}
use native.Mathlib.Nat.{lt_of_lt_of_le, eq_of_mul-eq-mul_right}
use native.Mathlib.Omega.{arith}
use mathlib.Core.Path.{◌≡◌, ap}
use mathlib.Core.Bool.{true, false, true≢false}
use lib.Dec.{T, lit≤}
use lib.Pow.{shl_lt}
use lib.IntN.{pos, negsuc}
use lib.Ieee.{Float, nan, inf, fin, binary32, up, down, round, sum, add, of_int}
use lib.Ieee.Fits.{down_pos, add-fits}
use lib.Ieee.Exact.{HasValue, round_exact}
use lib.Ieee.Scale.{finite}
use Rattle.rounding.specs.Units.{value}
use Rattle.rounding.proofs.Values.{sign-is, units-is}
use Rattle.rounding.proofs.Operations.{of_int-pos}
use Rattle.drawing.specs.Points.{half}
use Rattle.drawing.specs.Claims.{Raised}

-- ---- a fraction a / d that equals n, plus one half, with the denominator d * 2; p is one half in units

over-two : (a d n p : ℕ) → a * 1 ≡ n * d → (a * 2 + 1 * d) * (p * 2) ≡ (2 * n + 1) * p * (d * 2)
over-two a d n p e = omega (arith, ap (λ (z : ℕ). z * p) e)

-- A value w / g that equals that sum
in_halves : (w g a d n : ℕ) → 0 < d → a * 1 ≡ n * d → w * (d * 2) ≡ (a * 2 + 1 * d) * g → w * 2 ≡ (2 * n + 1) * g
in_halves w g a d n D e h = eq_of_mul-eq-mul_right d D (w * 2) ((2 * n + 1) * g) (omega (arith, ap (λ (z : ℕ). z * g) e))

in-units : (w g n p : ℕ) → w * 2 ≡ (2 * n + 1) * g → w * (p * 2) ≡ (2 * n + 1) * p * g
in-units w g n p h = omega (arith, ap (λ (z : ℕ). z * p) h)

module _ (n : ℕ) (small : n < 2 ^ 16) where
  digits : 2 * n + 1 < 2 ^ 24
  digits = omega arith

  reduced : (x : Float) (a d : ℕ) → 0 < d → a * 1 ≡ n * d → HasValue x false (a * 2 + 1 * d) (d * 2)
      → HasValue x false ((2 * n + 1) * 2 ^ 148) (2 ^ 149)
  reduced nan a d D e h = absurd h
  reduced (inf s) a d D e h = absurd h
  reduced (fin s m j) a d D e h = (h.0, in-units (m * up j) (down j) n (2 ^ 148) (in_halves (m * up j) (down j) a d n D e h.1))

  -- The sum is a float, so rounding keeps it
  rounded : (a d : ℕ) → 0 < d → a * 1 ≡ n * d
      → HasValue (round binary32 false (a * 2 + 1 * d) (d * 2)) false ((2 * n + 1) * 2 ^ 148) (2 ^ 149)
  rounded a d D e =
      reduced (round binary32 false (a * 2 + 1 * d) (d * 2)) a d D e
      (round_exact binary32 false (a * 2 + 1 * d) (d * 2) (2 * n + 1) 148 (omega arith) digits
      (lt_of_lt_of_le (shl_lt 24 148 digits) (lit≤ tt)) (over-two a d n (2 ^ 148) e))

  half-value : HasValue (half n) false ((2 * n + 1) * 2 ^ 148) (2 ^ 149)
  unfolding half add sum
  half-value = sums (of_int binary32 (pos n)) (of_int-pos binary32 n (lt_of_lt_of_le small (lit≤ tt)))
    where
      sums : (x : Float) → HasValue x false n 1 → HasValue (add binary32 x (fin false 1 (negsuc 0))) false ((2 * n + 1) * 2 ^ 148) (2 ^ 149)
      sums nan h = absurd h
      sums (inf s) h = absurd h
      sums (fin true m e) h = absurd (true≢false h.0)
      sums (fin false m e) h = rounded (m * up e) (down e) (down_pos e) h.1

  pub half-exact : value binary32 (half n) ≡ pos ((2 * n + 1) * 2 ^ 148)
  unfolding value
  half-exact = rw (sign-is binary32 (half n) false _ half-value, units-is binary32 (half n) false _ half-value)

  half-finite : T (finite (half n))
  half-finite = go (half n) half-value
    where
      go : (x : Float) → HasValue x false ((2 * n + 1) * 2 ^ 148) (2 ^ 149) → T (finite x)
      go nan h = absurd h
      go (inf s) h = absurd h
      go (fin s m e) h = tt

  pub half-raised : Raised n (half n)
  unfolding half
  half-raised =
      record { held = add-fits binary32 (of_int binary32 (pos n)) (fin false 1 (negsuc 0)); number = half-finite; exact = half-exact }
