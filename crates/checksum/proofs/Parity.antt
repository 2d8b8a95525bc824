-- The polynomial has an odd number of ones, so the register has an odd number of ones exactly if the message so far has.
use Prim.Native.Nat.{ℕ, zero, suc, ◌+◌, ◌*◌, ◌/◌, ◌%◌, ◌^◌, ◌<◌}
use mathlib.Core.Path.{◌≡◌, refl, sym, ap, ap₂, ◌∙◌}
use mathlib.Core.List.{List, [], ◌∷◌}
use native.Mathlib.Nat.{pow-suc}
use native.Mathlib.Omega.{arith}
use lib.Dec.{lit<}
use lib.Bits.{bit_xor, differ}
use Rattle.checksum.specs.Checksum.{polynomial, shift_in, register}
use Rattle.checksum.specs.Damage.{total}
use Rattle.checksum.proofs.Xor.{bit-cases, odd-bit, differ-bit, differ-sum, differ_comm, differ-assoc, differ-swap}
use Rattle.checksum.proofs.Xor.{xor-odd, xor-half}
use Rattle.checksum.proofs.Register.{Bits, shift-lt}

-- Whether the number of ones among the k lowest bits is odd
parity : ℕ → ℕ → ℕ
parity zero s = 0
parity (suc k) s = differ (s % 2) (parity k (s / 2))

parity-bit : (k s : ℕ) → parity k s < 2
unfolding parity
parity-bit zero s = lit< tt
parity-bit (suc k) s = differ-bit (s % 2) (parity k (s / 2)) (odd-bit s) (parity-bit k (s / 2))

parity-xor : (k s t : ℕ) → parity k (bit_xor s t) ≡ differ (parity k s) (parity k t)
unfolding parity
parity-xor zero s t = refl
parity-xor (suc k) s t =
    ap₂ differ (xor-odd s t) (ap (parity k) (xor-half s t) ∙ parity-xor k (s / 2) (t / 2))
    ∙ differ-swap (s % 2) (t % 2) (parity k (s / 2)) (parity k (t / 2))
    (odd-bit s) (odd-bit t) (parity-bit k (s / 2)) (parity-bit k (t / 2))

-- A place that is 0 makes no difference
parity-more : (k s : ℕ) → s < 2 ^ k → parity (suc k) s ≡ parity k s
unfolding parity
parity-more zero s h =
    let e : s ≡ 0 = omega arith in
    rw e refl
parity-more (suc k) s h = ap (differ (s % 2)) (parity-more k (s / 2) (omega (arith, pow-suc 2 k)))

parity-half : (s : ℕ) → s < 2 ^ 32 → parity 32 s ≡ differ (s % 2) (parity 32 (s / 2))
unfolding parity
parity-half s h = ap (differ (s % 2)) (sym (parity-more 31 (s / 2) (omega arith)))

parity-polynomial : (f : ℕ) → f < 2 → parity 32 (f * polynomial) ≡ f
unfolding parity
parity-polynomial f h = bit-cases (λ (x : ℕ). parity 32 (x * polynomial) ≡ x) refl refl f h

parity-shift : (s b : ℕ) → s < 2 ^ 32 → b < 2 → parity 32 (shift_in s b) ≡ (parity 32 s + b) % 2
unfolding shift_in
parity-shift s b h k =
    let hf : differ (s % 2) b < 2 = differ-bit (s % 2) b (odd-bit s) k in
    parity-xor 32 (s / 2) (differ (s % 2) b * polynomial)
    ∙ ap (differ (parity 32 (s / 2))) (parity-polynomial (differ (s % 2) b) hf)
    ∙ sym (differ-assoc (parity 32 (s / 2)) (s % 2) b (parity-bit 32 (s / 2)) (odd-bit s) k)
    ∙ ap (λ (x : ℕ). differ x b) (differ_comm (parity 32 (s / 2)) (s % 2) (parity-bit 32 (s / 2)) (odd-bit s) ∙ sym (parity-half s h))
    ∙ differ-sum (parity 32 s) b (parity-bit 32 s) k

parity-register : (s : ℕ) (d : List ℕ) → s < 2 ^ 32 → Bits d → parity 32 (register s d) ≡ (parity 32 s + total d) % 2
unfolding register total
parity-register s [] h k = omega (arith, parity-bit 32 s)
parity-register s (b ∷ d) h k =
    omega (arith, parity-register (shift_in s b) d (shift-lt s b h k.0) k.1, parity-shift s b h k.0)

pub even-total : (d : List ℕ) → Bits d → register 0 d ≡ 0 → total d % 2 ≡ 0
unfolding parity
even-total d k e = omega (arith, parity-register 0 d (lit< tt) k, ap (parity 32) e)
