-- What a checksum notices: any odd number of bits, any two bits, and any number of bits in 32 consecutive places.
use Prim.Native.Nat.{ℕ, zero, suc, ◌+◌, ◌%◌, ◌^◌, ◌≤◌, ◌<◌}
use mathlib.Core.Path.{◌≡◌, refl, sym, ap, ap₂, ◌∙◌}
use mathlib.Core.Logic.{◌⊎◌, inl, inr, ⊎_elim}
use mathlib.Core.List.{List, [], ◌∷◌}
use native.Mathlib.Decide.{ℕ_discrete}
use native.Mathlib.Omega.{arith}
use lib.ListN.{length, take, drop}
use lib.Dec.{lit<}
use lib.Bits.{bit_xor, xor_self}
use Rattle.checksum.specs.Checksum.{ones, shift_in, register, bits, message, checksum}
use Rattle.checksum.specs.Damage.{Bytes, differences, total, Far, Detects, DetectsBursts, DetectsOdd}
use Rattle.checksum.proofs.Xor.{differ_same, xor-cancel}
use Rattle.checksum.proofs.Register.{Bits, Back, message-bits, message-length, differences-bits, differences-length}
use Rattle.checksum.proofs.Register.{register-linear, shift-lt, shift_back, turn, turn-lt, turn_last}
use Rattle.checksum.proofs.Parity.{even-total}
use Rattle.checksum.proofs.Burst.{value, value-bits, stays, burst}
use Rattle.checksum.proofs.Order.{no_return}

-- ---- lists of bits that leave the register 0

-- One more bit, after a first one and then n - 1 zeros
single : (d : List ℕ) (n : ℕ) → Bits d → total d ≡ 1 → 0 < n → n + length d ≤ 2147483647 → register (turn n 1) d ≡ 0 → ⊥
unfolding register total
single [] n m t p l e = omega arith
single (zero ∷ d) n m t p l e =
    single d (suc n) m.1 (omega arith) (omega arith) (omega arith)
    (ap (λ (s : ℕ). register s d) (turn_last n 1) ∙ e)
single (suc zero ∷ d) n m t p l e =
    let h : turn n 1 < 2 ^ 32 = turn-lt n 1 (lit< tt) in
    let z : shift_in (turn n 1) 1 ≡ 0 = stays d (shift_in (turn n 1) 1) (shift-lt (turn n 1) 1 h (lit< tt)) m.1 (omega arith) e in
    let b : Back (turn n 1) 1 (shift_in (turn n 1) 1) = shift_back (turn n 1) 1 h (lit< tt) (omega arith) in
    no_return n p (omega arith) (omega (arith, b.low, b.rest))
single (suc (suc b) ∷ d) n m t p l e = omega (arith, m.0)

pair : (d : List ℕ) → Bits d → total d ≡ 2 → length d ≤ 2147483647 → register 0 d ≡ 0 → ⊥
unfolding register total shift_in turn
pair [] m t l e = omega arith
pair (zero ∷ d) m t l e = pair d m.1 (omega arith) (omega arith) e
pair (suc zero ∷ d) m t l e = single d 1 m.1 (omega arith) (omega arith) (omega arith) e
pair (suc (suc b) ∷ d) m t l e = omega (arith, m.0)

pub zero-or-far : (d : List ℕ) → Bits d → length d ≤ 2147483647 → register 0 d ≡ 0 → (total d ≡ 0) ⊎ Far d
zero-or-far d m l e =
    elim (ℕ_discrete (total d) 0) [
      | yes z ↦ inl z
      | no z ↦
          let even : total d % 2 ≡ 0 = even-total d m e in
          let not-two : total d ≡ 2 → ⊥ = λ t. pair d m t l e in
          inr
          (record {
            four = four (total d) z not-two even;
            even = even;
            wide = λ first w. z (burst first d m w e);
          })
    ]
  where
    four : (n : ℕ) → (n ≡ 0 → ⊥) → (n ≡ 2 → ⊥) → n % 2 ≡ 0 → 4 ≤ n
    four n p q r = omega arith

-- ---- lists of bytes

same_bits : (bs cs : List ℕ) → Bits bs → Bits cs → length bs ≡ length cs → total (differences bs cs) ≡ 0 → bs ≡ cs
unfolding differences total
same_bits [] [] h k e t = refl
same_bits [] (c ∷ cs) h k e t = absurd (omega arith)
same_bits (b ∷ bs) [] h k e t = absurd (omega arith)
same_bits (b ∷ bs) (c ∷ cs) h k e t =
    ap₂ (λ (x : ℕ) (xs : List ℕ). x ∷ xs) (differ_same b c h.0 k.0 (omega arith))
    (same_bits bs cs h.1 k.1 (omega arith) (omega arith))

same_bytes : (xs ys : List ℕ) → Bytes xs → Bytes ys → length xs ≡ length ys → message xs ≡ message ys → xs ≡ ys
unfolding message bits
same_bytes [] [] h k e p = refl
same_bytes [] (y ∷ ys) h k e p = absurd (omega arith)
same_bytes (x ∷ xs) [] h k e p = absurd (omega arith)
same_bytes (x ∷ xs) (y ∷ ys) h k e p =
    let head : bits 8 x ≡ bits 8 y = ap (take 8) p in
    let byte : x ≡ y = sym (value-bits 8 x (h 0 (omega arith))) ∙ ap value head ∙ value-bits 8 y (k 0 (omega arith)) in
    ap₂ (λ (z : ℕ) (zs : List ℕ). z ∷ zs) byte
    (same_bytes xs ys (λ i l. h (suc i) (omega arith)) (λ i l. k (suc i) (omega arith)) (omega arith) (ap (drop 8) p))

no_difference : (xs ys : List ℕ) → length xs ≡ length ys → checksum xs ≡ checksum ys
    → register 0 (differences (message xs) (message ys)) ≡ 0
unfolding checksum
no_difference xs ys e p =
    let same : register ones (message xs) ≡ register ones (message ys) = xor-cancel _ _ ones p in
    ap (λ (s : ℕ). register s (differences (message xs) (message ys))) (sym (xor_self ones))
    ∙ register-linear ones ones (message xs) (message ys) (message-bits xs) (message-bits ys)
    (omega (arith, message-length xs, message-length ys))
    ∙ ap (λ (s : ℕ). bit_xor s (register ones (message ys))) same
    ∙ xor_self (register ones (message ys))

lengths : (xs ys : List ℕ) → length xs ≡ length ys → length (message xs) ≡ length (message ys)
lengths xs ys e = omega (arith, message-length xs, message-length ys)

differing : (xs ys : List ℕ) → Bits (differences (message xs) (message ys))
differing xs ys = differences-bits (message xs) (message ys) (message-bits xs) (message-bits ys)

equal : (xs ys : List ℕ) → Bytes xs → Bytes ys → length xs ≡ length ys → total (differences (message xs) (message ys)) ≡ 0 → xs ≡ ys
equal xs ys h k e t = same_bytes xs ys h k e (same_bits (message xs) (message ys) (message-bits xs) (message-bits ys) (lengths xs ys e) t)

pub detects : Detects
detects xs ys h k e l p =
    ⊎_elim (λ t. inl (equal xs ys h k e t)) (λ far. inr far)
    (zero-or-far (differences (message xs) (message ys)) (differing xs ys)
    (omega (arith, differences-length (message xs) (message ys) (lengths xs ys e), message-length xs)) (no_difference xs ys e p))

pub detects-bursts : DetectsBursts
detects-bursts xs ys h k e first w p =
    equal xs ys h k e (burst first (differences (message xs) (message ys)) (differing xs ys) w (no_difference xs ys e p))

pub detects-odd : DetectsOdd
detects-odd xs ys h k e o p =
    omega (arith, even-total (differences (message xs) (message ys)) (differing xs ys) (no_difference xs ys e p))
