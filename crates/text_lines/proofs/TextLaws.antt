-- A number in decimal is a tenth of it in decimal, unless that is 0, followed by the
-- last digit. So every large enough bound on the digits gives the same text.
use Prim.Native.Nat.{ℕ, zero, suc, ◌+◌, ◌*◌, ◌-◌, ◌/◌, ◌%◌, ◌^◌, ◌≤◌, ◌<◌}
use native.Mathlib.Nat.{div-add-mod}
use native.Mathlib.Decide.{dec_le}
use native.Mathlib.Omega.{arith}
use mathlib.Core.Path.{◌≡◌, refl}
use mathlib.Core.List.{List, [], ◌∷◌, ◌++◌}
use lib.ListN.{length, length-append}
use borrow.Author.Tests.{lt-ltb, le-ltb}
use Rattle.text_lines.specs.declared.Line.{Line}
use Rattle.text_lines.specs.Text.{digit, digits, decimal, field_text, line_text}

pub tenth-below : (n : ℕ) → 10 ≤ n → n / 10 < n
tenth-below n h = omega (arith, div-add-mod n 10)

-- The digits do not depend on the bound
digits-enough : (k j n : ℕ) → n < k → n < j → digits k n ≡ digits j n
unfolding digits
digits-enough zero j n h i = absurd (omega arith)
digits-enough (suc k) zero n h i = absurd (omega arith)
digits-enough (suc k) (suc j) n h i =
    elim (dec_le 10 n) [
      | yes l ↦ let m = tenth-below n l in rw (le-ltb n 10 l, digits-enough k j (n / 10) (omega arith) (omega arith))
      | no l ↦ rw (lt-ltb n 10 (omega arith))
    ]

pub decimal-small : (n : ℕ) → n < 10 → decimal n ≡ digit (n % 10) ∷ []
unfolding decimal digits
decimal-small n h = rw (lt-ltb n 10 h)

pub decimal-large : (n : ℕ) → 10 ≤ n → decimal n ≡ decimal (n / 10) ++ (digit (n % 10) ∷ [])
unfolding decimal digits
decimal-large n h =
    let m = tenth-below n h in
    rw (le-ltb n 10 h, digits-enough n (suc (n / 10)) (n / 10) (omega arith) (omega arith))

-- The number that digits stand for, after a number that is read already
abbrev pub number_read : ℕ → List ℕ → ℕ
number_read n [] = n
number_read n (d ∷ w) = number_read (10 * n + (d - 48)) w

read-last : (n d : ℕ) (w : List ℕ) → number_read n (w ++ (d ∷ [])) ≡ 10 * number_read n w + (d - 48)
read-last n d [] = refl
read-last n d (x ∷ w) = read-last (10 * n + (x - 48)) d w

digits-read : (k n : ℕ) → n < k → number_read 0 (digits k n) ≡ n
unfolding digits
digits-read zero n h = absurd (omega arith)
digits-read (suc k) n h =
    elim (dec_le 10 n) [
      | yes l ↦
          let m = tenth-below n l in
          let rest : number_read 0 (digits k (n / 10)) ≡ n / 10 = digits-read k (n / 10) (omega arith) in
          rw (le-ltb n 10 l, read-last 0 (digit (n % 10)) (digits k (n / 10)), rest) (omega (arith, div-add-mod n 10))
      | no l ↦ rw (lt-ltb n 10 (omega arith)) (omega (arith, div-add-mod n 10))
    ]

-- A number in decimal stands for that number
pub decimal-read : (n : ℕ) → number_read 0 (decimal n) ≡ n
unfolding decimal
decimal-read n = digits-read (suc n) n (omega arith)

-- A number below 10 ^ m has at most m digits
digits-short : (m k n : ℕ) → n < 10 ^ suc m → length (digits k n) ≤ suc m
unfolding digits
digits-short m zero n h = omega arith
digits-short zero (suc k) n h = rw (lt-ltb n 10 h) (omega arith)
digits-short (suc m) (suc k) n h =
    elim (dec_le 10 n) [
      | yes l ↦
          let below : n / 10 < 10 ^ suc m = omega (arith, div-add-mod n 10, h) in
          rw (le-ltb n 10 l, length-append (digits k (n / 10)) (digit (n % 10) ∷ [])) (omega (arith, digits-short m k (n / 10) below))
      | no l ↦ rw (lt-ltb n 10 (omega arith)) (omega arith)
    ]

field-short : (m n b : ℕ) → n < 10 ^ suc m → length (field_text n b) ≤ suc (suc m)
unfolding field_text decimal
field-short m n b h = rw (length-append (digits (suc n) n) (b ∷ [])) (omega (arith, digits-short m (suc n) n h))

-- A line whose numbers have at most five digits has at most eighteen bytes
pub line-short : (l : Line) → l.number < 100000 → l.answer < 100000 → l.place < 100000 → length (line_text l) ≤ 18
unfolding line_text
line-short l h i j =
    simp length-append
    (omega (arith, field-short 4 l.number 32 h, field-short 4 l.answer 32 i, field-short 4 l.place 10 j))
