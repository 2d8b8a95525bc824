-- The register, from 1, comes back to 1 after 2147483647 zero bits and not before: 2147483647 is a prime, and the returns are its
-- multiples.
use Prim.Native.Nat.{ℕ, zero, suc, ◌+◌, ◌*◌, ◌/◌, ◌%◌, ◌≤◌, ◌<◌}
use mathlib.Core.Path.{◌≡◌, refl, sym, ap, ap₂, ◌∙◌}
use mathlib.Core.Bool.{Bool, true, ◌&&◌}
use mathlib.Core.List.{List, [], ◌∷◌}
use native.Mathlib.Nat.{mul_comm, suc-mul, mod-lt, div-add-mod', mul-mod_left, mul-le-mul_left, zero-mul, one-mul}
use native.Mathlib.Decide.{dec_lt, ℕ_discrete}
use native.Mathlib.Omega.{arith}
use lib.ListN.{length}
use lib.Dec.{T, eqb, ltb, eqb→eq, ltb→lt}
use lib.Bits.{bit_xor}
use Rattle.checksum.specs.Checksum.{polynomial, shift_in, bits}
use mir.Facts.{and_yes}
use Rattle.checksum.proofs.Register.{Bits, bits-bits, turn, turn-add, turn-comm, turn_last, turn-linear}
use Rattle.checksum.proofs.Register.{turn-zero, turn-scale, turn_one, turn-none}

-- ---- the order divides 2147483647

-- The polynomial with these coefficients, the highest first, times a: each power of x is one zero bit
horner : ℕ → ℕ → List ℕ → ℕ
horner a acc [] = acc
horner a acc (b ∷ bs) = horner a (bit_xor (shift_in acc 0) (b * a)) bs

turn-horner : (n a acc : ℕ) (bs : List ℕ) → Bits bs → turn n (horner a acc bs) ≡ horner (turn n a) (turn n acc) bs
unfolding horner
turn-horner n a acc [] h = refl
turn-horner n a acc (b ∷ bs) h =
    turn-horner n a (bit_xor (shift_in acc 0) (b * a)) bs h.1
    ∙ ap (λ (x : ℕ). horner (turn n a) x bs)
    (turn-linear n (shift_in acc 0) (b * a) ∙ ap₂ bit_xor (over acc) (turn-scale n b a h.0))
  where
    over : (s : ℕ) → turn n (shift_in s 0) ≡ shift_in (turn n s) 0
    over s = ap (turn n) (sym (turn_one s)) ∙ turn-comm n 1 s ∙ turn_one (turn n s)

-- The register of the number 1 of the field
abbrev unit : ℕ
unit = 0x80000000

square : ℕ → ℕ
square a = horner a 0 (bits 32 a)

squared : (n a : ℕ) → turn n unit ≡ a → horner unit 0 (bits 32 a) ≡ a → turn (n + n) unit ≡ square a
unfolding square
squared n a e r =
    turn-add n n unit ∙ ap (turn n) (e ∙ sym r) ∙ turn-horner n unit 0 (bits 32 a) (bits-bits 32 a)
    ∙ ap₂ (λ (x y : ℕ). horner x y (bits 32 a)) e (turn-zero n)

-- Each number is the square of the one before, times x
chain : ℕ → List ℕ → Bool
chain a [] = eqb a unit
chain a (b ∷ bs) = eqb (horner unit 0 (bits 32 a)) a && (eqb (shift_in (square a) 0) b && chain b bs)

grown : ℕ → ℕ → ℕ
grown n zero = n
grown n (suc k) = grown (suc (n + n)) k

chained : (n a : ℕ) (bs : List ℕ) → turn n unit ≡ a → T (chain a bs) → turn (grown n (length bs)) unit ≡ unit
unfolding chain grown
chained n a [] e t = e ∙ eqb→eq a unit t
chained n a (b ∷ bs) e t =
    let whole : Bool = eqb (shift_in (square a) 0) b && chain b bs in
    let r : horner unit 0 (bits 32 a) ≡ a =
    eqb→eq (horner unit 0 (bits 32 a)) a (and_yes (eqb (horner unit 0 (bits 32 a)) a) whole t).0 in
    let t' : T whole = (and_yes (eqb (horner unit 0 (bits 32 a)) a) whole t).1 in
    chained (suc (n + n)) b bs
    (turn_last (n + n) unit ∙ ap (λ (x : ℕ). shift_in x 0) (squared n a e r)
    ∙ eqb→eq (shift_in (square a) 0) b (and_yes (eqb (shift_in (square a) 0) b) (chain b bs) t').0)
    (and_yes (eqb (shift_in (square a) 0) b) (chain b bs) t').1

-- The powers 3, 7, 15, .. of x, to 2147483647
powers : List ℕ
powers =
    0x10000000 ∷ 0x01000000 ∷ 0x00010000 ∷ 0x00000001 ∷ 0xDD45AAB8 ∷ 0x3171D430 ∷
    0xA2158B34 ∷ 0x75BBA45B ∷ 0x7417153F ∷ 0x1426A815 ∷ 0xE986C148 ∷ 0xCDC220DD ∷
    0x1ACAEC54 ∷ 0x6BAE74C4 ∷ 0x508C2AC8 ∷ 0x7B66D223 ∷ 0xC0381349 ∷ 0xF902F73D ∷
    0xF760B4E7 ∷ 0x78409F1E ∷ 0xA70B0DC6 ∷ 0xB2E4D22A ∷ 0xE69AA612 ∷ 0x7DD9F837 ∷
    0xFA0E4598 ∷ 0xA0FFE38D ∷ 0xD7752589 ∷ 0x0B6E9E7E ∷ 0x4FD04875 ∷ 0x80000000 ∷ []

powers-right : T (chain 0x40000000 powers)
unfolding chain powers square horner bits shift_in
powers-right = tt

first : turn 1 unit ≡ 0x40000000
unfolding shift_in
first = turn_one unit

grown-is : grown 1 (length powers) ≡ 2147483647
unfolding grown powers
grown-is = refl

unit-returns : turn 2147483647 unit ≡ unit
unit-returns = rw (← grown-is) (chained 1 0x40000000 powers first powers-right)

-- ---- 2147483647 is a prime

none-divides : ℕ → ℕ → Bool
none-divides zero d = true
none-divides (suc k) d = ltb 0 (2147483647 % d) && none-divides k (suc d)

no-divisor : (k d : ℕ) → T (none-divides k d) → (j : ℕ) → d ≤ j → j < d + k → 0 < 2147483647 % j
unfolding none-divides
no-divisor zero d t j h l = absurd (omega arith)
no-divisor (suc k) d t j h l =
    elim (ℕ_discrete d j) [
      | yes e ↦ rw e at (ltb→lt 0 (2147483647 % d) (and_yes (ltb 0 (2147483647 % d)) (none-divides k (suc d)) t).0)
      | no n ↦ no-divisor k (suc d) (and_yes (ltb 0 (2147483647 % d)) (none-divides k (suc d)) t).1 j (omega arith) (omega arith)
    ]

divided : T (none-divides 46339 2)
unfolding none-divides
divided = tt

-- If k divides it then so does the quotient, and one of the two is at most 46340
pub prime : (k : ℕ) → 1 < k → k < 2147483647 → 0 < 2147483647 % k
prime k h l =
    elim (dec_lt k 46341) [
      | yes m ↦ no-divisor 46339 2 divided k h (omega arith)
      | no m ↦
          elim (dec_lt 0 (2147483647 % k)) [
            | yes p ↦ p
            | no p ↦ absurd (large (2147483647 / k) (omega (arith, div-add-mod' 2147483647 k)) (omega arith))
          ]
    ]
  where
    large : (q : ℕ) → q * k ≡ 2147483647 → 46341 ≤ k → ⊥
    large zero e m = omega (arith, zero-mul k)
    large (suc zero) e m = omega (arith, one-mul k)
    large (suc (suc q)) e m =
        let small : suc (suc q) < 46341 = omega (arith, mul-le-mul_left (suc (suc q)) m) in
        omega (
          arith,
          no-divisor 46339 2 divided (suc (suc q)) (omega arith) (omega arith),
          ap (λ (x : ℕ). x % suc (suc q)) (sym e ∙ mul_comm (suc (suc q)) k),
          mul-mod_left k (suc (suc q)),
        )

-- ---- the returns

-- unit returns, so 1 does, which is unit after 31 zero bits
one-is : turn 31 unit ≡ 1
unfolding turn shift_in
one-is = refl

one-returns : turn 2147483647 1 ≡ 1
one-returns =
    ap (turn 2147483647) (sym one-is) ∙ turn-comm 2147483647 31 unit ∙ ap (turn 31) unit-returns ∙ one-is

multiple : (n q : ℕ) → turn n 1 ≡ 1 → turn (q * n) 1 ≡ 1
multiple n zero e = rw zero-mul (turn-none 1)
multiple n (suc q) e = rw suc-mul (turn-add (q * n) n 1 ∙ ap (turn n) (multiple n q e) ∙ e)

rest : (m n : ℕ) → turn m 1 ≡ 1 → turn n 1 ≡ 1 → turn (m % n) 1 ≡ 1
rest m n p e =
    ap (turn (m % n)) (sym (multiple n (m / n) e)) ∙ sym (turn-add (m / n * n) (m % n) 1)
    ∙ ap (λ (k : ℕ). turn k 1) (div-add-mod' m n) ∙ p

one-moves : turn 1 1 ≡ polynomial
unfolding shift_in
one-moves = turn_one 1

no-return-below : (f n : ℕ) → n ≤ f → 0 < n → n < 2147483647 → turn n 1 ≡ 1 → ⊥
no-return-below zero n h p l e = omega arith
no-return-below (suc f) n h p l e =
    elim (ℕ_discrete n 1) [
      | yes q ↦ omega (arith, one-moves, rw q at e)
      | no q ↦
          no-return-below f (2147483647 % n) (omega (arith, mod-lt 2147483647 p)) (prime n (omega arith) l)
          (omega (arith, mod-lt 2147483647 p))
          (rest 2147483647 n one-returns e)
    ]

pub no_return : (n : ℕ) → 0 < n → n < 2147483647 → turn n 1 ≡ 1 → ⊥
no_return n = no-return-below n n (omega arith)
