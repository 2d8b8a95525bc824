-- The register is linear: the register of the differences is the difference of the registers.
use Prim.Native.Nat.{ℕ, zero, suc, ◌+◌, ◌*◌, ◌/◌, ◌%◌, ◌^◌, ◌<◌}
use mathlib.Core.Path.{◌≡◌, refl, sym, ap, ap₂, ◌∙◌}
use mathlib.Core.List.{List, [], ◌∷◌, ◌++◌}
use native.Mathlib.Nat.{add_comm, suc-add, zero-add, pow-suc}
use native.Mathlib.Omega.{arith}
use lib.ListN.{length, length-append}
use lib.Dec.{lit<}
use lib.Bits.{bit_xor, differ, xor_lt, xor_shr, xor_comm, xor_zero_r}
use Rattle.checksum.specs.Checksum.{polynomial, shift_in, register, bits, message}
use Rattle.checksum.specs.Damage.{differences}
use Rattle.checksum.proofs.Xor.{bit-cases, odd-bit, differ-zero, differ-bit, differ_same, differ-swap}
use Rattle.checksum.proofs.Xor.{xor-odd, xor-half, xor_assoc, xor-swap, scale-differ}

-- Every element is 0 or 1
abbrev pub Bits : List ℕ → Type 0
Bits [] = Unit {0}
Bits (b ∷ bs) = (b < 2) × Bits bs

pub bits-append : (bs cs : List ℕ) → Bits bs → Bits cs → Bits (bs ++ cs)
bits-append [] cs h k = k
bits-append (b ∷ bs) cs h k = (h.0, bits-append bs cs h.1 k)

pub bits-bits : (n x : ℕ) → Bits (bits n x)
unfolding bits
bits-bits zero x = tt
bits-bits (suc n) x = (odd-bit x, bits-bits n (x / 2))

pub message-bits : (xs : List ℕ) → Bits (message xs)
unfolding message
message-bits [] = tt
message-bits (x ∷ xs) = bits-append (bits 8 x) (message xs) (bits-bits 8 x) (message-bits xs)

pub bits-length : (n x : ℕ) → length (bits n x) ≡ n
unfolding bits
bits-length zero x = refl
bits-length (suc n) x = ap suc (bits-length n (x / 2))

pub message-length : (xs : List ℕ) → length (message xs) ≡ length xs * 8
unfolding message
message-length [] = refl
message-length (x ∷ xs) = omega (arith, length-append (bits 8 x) (message xs), bits-length 8 x, message-length xs)

pub differences-bits : (bs cs : List ℕ) → Bits bs → Bits cs → Bits (differences bs cs)
unfolding differences
differences-bits [] cs h k = tt
differences-bits (b ∷ bs) [] h k = tt
differences-bits (b ∷ bs) (c ∷ cs) h k = (differ-bit b c h.0 k.0, differences-bits bs cs h.1 k.1)

pub differences-length : (bs cs : List ℕ) → length bs ≡ length cs → length (differences bs cs) ≡ length bs
unfolding differences
differences-length [] cs e = refl
differences-length (b ∷ bs) [] e = absurd (omega arith)
differences-length (b ∷ bs) (c ∷ cs) e = ap suc (differences-length bs cs (omega arith))

pub register-append : (s : ℕ) (bs cs : List ℕ) → register s (bs ++ cs) ≡ register (register s bs) cs
unfolding register
register-append s [] cs = refl
register-append s (b ∷ bs) cs = register-append (shift_in s b) bs cs

-- One step
pub shift-linear : (s t b c : ℕ) → b < 2 → c < 2 → shift_in (bit_xor s t) (differ b c) ≡ bit_xor (shift_in s b) (shift_in t c)
unfolding shift_in
shift-linear s t b c h k =
    ap₂ (λ (x y : ℕ). bit_xor x (differ y (differ b c) * polynomial)) (xor-half s t) (xor-odd s t)
    ∙ ap (λ (x : ℕ). bit_xor (bit_xor (s / 2) (t / 2)) (x * polynomial))
    (differ-swap (s % 2) (t % 2) b c (odd-bit s) (odd-bit t) h k)
    ∙ ap (bit_xor (bit_xor (s / 2) (t / 2)))
    (scale-differ polynomial (differ (s % 2) b) (differ (t % 2) c)
    (differ-bit (s % 2) b (odd-bit s) h) (differ-bit (t % 2) c (odd-bit t) k))
    ∙ xor-swap (s / 2) (t / 2) (differ (s % 2) b * polynomial) (differ (t % 2) c * polynomial)

pub register-linear : (s t : ℕ) (bs cs : List ℕ) → Bits bs → Bits cs → length bs ≡ length cs
    → register (bit_xor s t) (differences bs cs) ≡ bit_xor (register s bs) (register t cs)
unfolding register differences
register-linear s t [] [] h k e = refl
register-linear s t [] (c ∷ cs) h k e = absurd (omega arith)
register-linear s t (b ∷ bs) [] h k e = absurd (omega arith)
register-linear s t (b ∷ bs) (c ∷ cs) h k e =
    ap (λ (x : ℕ). register x (differences bs cs)) (shift-linear s t b c h.0 k.0)
    ∙ register-linear (shift_in s b) (shift_in t c) bs cs h.1 k.1 (omega arith)

pub shift-lt : (s b : ℕ) → s < 2 ^ 32 → b < 2 → shift_in s b < 2 ^ 32
unfolding shift_in
shift-lt s b h k =
    xor_lt 32 (s / 2) (differ (s % 2) b * polynomial) (omega arith) (omega (arith, differ-bit (s % 2) b (odd-bit s) k))

-- Where the polynomial is taken in, the highest bit is set. So if it is not, the bit that fell out was the message's
pub record Back (s b v : ℕ) : Type 0 where
  pub low : s % 2 ≡ b
  pub rest : s / 2 ≡ v

pub shift_back : (s b : ℕ) → s < 2 ^ 32 → b < 2 → shift_in s b < 2 ^ 31 → Back s b (shift_in s b)
unfolding shift_in
shift_back s b h k l = go (differ (s % 2) b) (differ-bit (s % 2) b (odd-bit s) k) refl
  where
    high : bit_xor (s / 2) (1 * polynomial) / 2 ^ 31 ≡ 1
    high =
        let none : s / 2 / 2 ^ 31 ≡ 0 = omega arith in
        xor_shr (s / 2) polynomial 31 ∙ ap (λ (x : ℕ). bit_xor x 1) none

    go : (f : ℕ) → f < 2 → differ (s % 2) b ≡ f → Back s b (bit_xor (s / 2) (differ (s % 2) b * polynomial))
    go zero m e =
        record {
          low = differ_same (s % 2) b (odd-bit s) k e;
          rest = rw e (sym (xor_zero_r (s / 2)));
        }
    go (suc zero) m e =
        let small : bit_xor (s / 2) (1 * polynomial) < 2 ^ 31 = rw e at l in
        absurd (omega (arith, high))
    go (suc (suc f)) m e = absurd (omega arith)

-- ---- zero bits

-- The register after n zero bits
unfoldable pub turn : ℕ → ℕ → ℕ
turn zero s = s
turn (suc n) s = turn n (shift_in s 0)

pub turn-none : (s : ℕ) → turn 0 s ≡ s
unfolding turn
turn-none s = refl

pub turn-first : (n s : ℕ) → turn (suc n) s ≡ turn n (shift_in s 0)
unfolding turn
turn-first n s = refl

pub turn-add : (m n s : ℕ) → turn (m + n) s ≡ turn n (turn m s)
unfolding turn
turn-add zero n s = ap (λ (k : ℕ). turn k s) (zero-add n)
turn-add (suc m) n s = ap (λ (k : ℕ). turn k s) (suc-add m n) ∙ turn-add m n (shift_in s 0)

pub turn-comm : (m n s : ℕ) → turn m (turn n s) ≡ turn n (turn m s)
turn-comm m n s = sym (turn-add n m s) ∙ ap (λ (k : ℕ). turn k s) (add_comm n m) ∙ turn-add m n s

pub turn_one : (s : ℕ) → turn 1 s ≡ shift_in s 0
unfolding turn
turn_one s = refl

pub turn_last : (n s : ℕ) → turn (suc n) s ≡ shift_in (turn n s) 0
turn_last n s = turn-first n s ∙ ap (turn n) (sym (turn_one s)) ∙ turn-comm n 1 s ∙ turn_one (turn n s)

pub turn-lt : (n s : ℕ) → s < 2 ^ 32 → turn n s < 2 ^ 32
unfolding turn
turn-lt zero s h = h
turn-lt (suc n) s h = turn-lt n (shift_in s 0) (shift-lt s 0 h (lit< tt))

pub turn-linear : (n s t : ℕ) → turn n (bit_xor s t) ≡ bit_xor (turn n s) (turn n t)
unfolding turn
turn-linear zero s t = refl
turn-linear (suc n) s t = ap (turn n) (shift-linear s t 0 0 (lit< tt) (lit< tt)) ∙ turn-linear n (shift_in s 0) (shift_in t 0)

pub turn-zero : (n : ℕ) → turn n 0 ≡ 0
unfolding turn shift_in
turn-zero zero = refl
turn-zero (suc n) = turn-zero n

pub turn-scale : (n b s : ℕ) → b < 2 → turn n (b * s) ≡ b * turn n s
turn-scale n b s h =
    bit-cases (λ (x : ℕ). turn n (x * s) ≡ x * turn n s)
    (rw (none s, none (turn n s)) (turn-zero n))
    (rw (once s, once (turn n s)) refl) b h
  where
    none : (x : ℕ) → 0 * x ≡ 0
    none x = omega arith

    once : (x : ℕ) → 1 * x ≡ x
    once x = omega arith

-- A message's bit may as well be put into the register's lowest place before a zero bit
pub shift_in-xor : (s x : ℕ) → shift_in (bit_xor s x) 0 ≡ bit_xor (shift_in s (x % 2)) (x / 2)
unfolding shift_in
shift_in-xor s x =
    ap₂ (λ (u v : ℕ). bit_xor u (v * polynomial)) (xor-half s x) (differ-zero (bit_xor s x % 2) ∙ xor-odd s x)
    ∙ xor_assoc (s / 2) (x / 2) (differ (s % 2) (x % 2) * polynomial)
    ∙ ap (bit_xor (s / 2)) (xor_comm (x / 2) (differ (s % 2) (x % 2) * polynomial))
    ∙ sym (xor_assoc (s / 2) (differ (s % 2) (x % 2) * polynomial) (x / 2))

pub register-bits : (n s x : ℕ) → x < 2 ^ n → register s (bits n x) ≡ turn n (bit_xor s x)
unfolding register bits turn
register-bits zero s x h =
    let e : x ≡ 0 = omega arith in
    rw e (sym (xor_zero_r s))
register-bits (suc n) s x h =
    register-bits n (shift_in s (x % 2)) (x / 2) (omega (arith, pow-suc 2 n)) ∙ ap (turn n) (sym (shift_in-xor s x))
