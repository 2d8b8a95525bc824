-- An integer is a difference of two naturals, its part above 0 and its part below 0; so a ≤ b is a comparison of two sums of such parts.
use Prim.Native.Nat.{ℕ, suc, ◌+◌, ◌≤◌, ◌<◌}
use native.Mathlib.Decide.{dec_le}
use native.Mathlib.Omega.{arith}
use mathlib.Core.Path.{◌≡◌, sym, ◌∙◌}
use mathlib.Core.Logic.{◌↔◌}
use mathlib.Core.Bool.{true, false}
use lib.Dec.{leb}
use lib.IntN.{ℤ, pos, negsuc}
use lib.Signed.{le_z}
use borrow.Author.Tests.{leb-true, leb-false, le-leb, lt-leb}

-- The part of an integer above 0, and the part below 0: the integer is their difference
abbrev pub up : ℤ → ℕ
up (pos n) = n
up (negsuc n) = 0

abbrev pub down : ℤ → ℕ
down (pos n) = 0
down (negsuc n) = suc n

same_test : (a b c d : ℕ) → (a ≤ b → c ≤ d) → (c ≤ d → a ≤ b) → leb a b ≡ leb c d
same_test a b c d h k =
    elim (dec_le a b) [
      | yes l ↦ le-leb a b l ∙ sym (le-leb c d (h l))
      | no l ↦ lt-leb a b (omega arith) ∙ sym (lt-leb c d (let l' : ¬ (c ≤ d) = λ m. l (k m) in omega arith))
    ]

pub le_parts : (a b : ℤ) → le_z a b ≡ leb (up a + down b) (up b + down a)
le_parts (pos a) (pos b) = same_test a b (a + 0) (b + 0) (λ l. omega arith) (λ l. omega arith)
le_parts (pos a) (negsuc b) = sym (lt-leb (a + suc b) (0 + 0) (omega arith))
le_parts (negsuc a) (pos b) = sym (le-leb (0 + 0) (b + suc a) (omega arith))
le_parts (negsuc a) (negsuc b) = same_test b a (0 + suc b) (0 + suc a) (λ l. omega arith) (λ l. omega arith)

-- a is at most b, as a comparison of naturals
abbrev pub AtMost : ℤ → ℤ → Type 0
AtMost a b = up a + down b ≤ up b + down a

pub at-most-iff : (a b : ℤ) → (le_z a b ≡ true) ↔ AtMost a b
at-most-iff a b = ((λ e. leb-true _ _ (sym (le_parts a b) ∙ e)), λ l. le_parts a b ∙ le-leb (up a + down b) (up b + down a) l)

pub not-at-most : (a b : ℤ) → le_z a b ≡ false → up b + down a < up a + down b
not-at-most a b e = leb-false _ _ (sym (le_parts a b) ∙ e)
