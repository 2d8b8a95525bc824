-- The Christoffel test in one pass: the remainder of i·k is updated in steps of k, and k and n have a common divisor exactly if a
-- remainder before the last is 0.
use Prim.Native.Nat.{ℕ, zero, suc, ◌+◌, ◌-◌, ◌*◌, ◌/◌, ◌%◌, ◌≤◌, ◌<◌}
use native.Mathlib.Nat.{zero-mul, suc-mul, mul-zero, mul_assoc, mul_comm, zero-mod, mod-lt, mod-eq_of_lt, mod-eq-sub-mod, mod-add-mod}
use native.Mathlib.Nat.{mul-mod_left, mod-add-div', mul-le-mul_right}
use native.Mathlib.Numerals.{add-one}
use native.Mathlib.Decide.{dec_le}
use native.Mathlib.Omega.{arith}
use mathlib.Core.Path.{◌≡◌, refl, sym, ap, ◌∙◌}
use mathlib.Core.Logic.{inl, inr}
use mathlib.Core.Bool.{Bool, true, false, not, ◌&&◌, beq}
use mathlib.Core.List.{List, [], ◌∷◌}
use lib.ListN.{length, get_or}
use lib.Dec.{ltb, eqb}
use Rattle.base.specs.Below.{every}
use Rattle.words.specs.Word.{Word, word_of, laters}
use Rattle.words.specs.Christoffel.{Coprime, coprime, remainders, christoffel}
use Rattle.base.proofs.BelowLaws.{below_suc, every-at, every_of}
use Rattle.words.proofs.WordOf.{length-word_of, letter-word_of}
use Rattle.words.proofs.Christoffel.{coprime-iff}
use Rattle.words.proofs.Coprime.{coprime-no-multiple}

-- ---- one step

pub remainder-below : (r k n : ℕ) → r < n - k → r + k ≡ (r + k) % n
remainder-below r k n h = sym (mod-eq_of_lt (omega arith))

pub remainder-above : (r k n : ℕ) → r < n → k ≤ n → n - k ≤ r → r - (n - k) ≡ (r + k) % n
remainder-above r k n h l m =
    let e : r - (n - k) ≡ r + k - n = omega arith in
    e ∙ sym (mod-eq-sub-mod {n = r + k} {m = n} (omega arith) ∙ mod-eq_of_lt (omega arith))

-- ---- a common divisor

-- A multiple of k below n·k that n divides
not-coprime : (k n i : ℕ) → 0 < i → i < n → i * k % n ≡ 0 → coprime k n ≡ false
not-coprime k n i p l e = go (coprime k n) refl
  where
    go : (b : Bool) → coprime k n ≡ b → coprime k n ≡ false
    go false q = q
    go true q =
        absurd
        (coprime-no-multiple k n i (i * k / n) ((coprime-iff k n (omega arith)).0 q) p l
        (omega (arith, mod-add-div' (i * k) n)))

-- If d divides k and n, remainder n / d is 0
coprime-of-remainders : (k n : ℕ) → 0 < n → ((i : ℕ) → 0 < i → i < n → i * k % n ≡ 0 → ⊥) → Coprime k n
unfolding Coprime
coprime-of-remainders k n pos h d a zero p q = absurd (omega (arith, mul-zero d))
coprime-of-remainders k n pos h d a (suc b) p q =
    elim (dec_le d 1) [
      | yes l ↦ l
      | no l ↦
          let m : 2 ≤ d = omega arith in
          let e : suc b * k ≡ a * n =
          ap (λ (x : ℕ). suc b * x) (sym p) ∙ sym (mul_assoc (suc b) d a) ∙ ap (λ (x : ℕ). x * a) (mul_comm (suc b) d ∙ q) ∙ mul_comm n a
          in
          absurd (h (suc b) (omega arith) (omega (arith, mul-le-mul_right (suc b) m)) (ap (λ (x : ℕ). x % n) e ∙ mul-mod_left a n))
    ]

-- ---- the pass over the letters

-- The test of letter i
abbrev fits : Word → ℕ → ℕ → ℕ → Bool
fits w k n i = beq (not (get_or w i false)) (ltb (i * k % n) (suc i * k % n))

-- i letters of the list have passed, and r is the remainder after them
pub record Walked (l : List ℕ) (later k i r : ℕ) : Type 0 where
  pub small : r < length l
  pub remainder : r ≡ i * k % length l
  pub letters : (j : ℕ) → j < i → fits (word_of later l) k (length l) j ≡ true
  pub apart : (j : ℕ) → 0 < j → j < i → j * k % length l ≡ 0 → ⊥

pub walked_start : (l : List ℕ) (later k : ℕ) → 0 < length l → Walked l later k 0 0
walked_start l later k h =
    record {
      small = h;
      remainder = sym (rw (zero-mul, zero-mod));
      letters = λ j p. absurd (omega arith);
      apart = λ j m p. absurd (omega arith);
    }

beq-not : (a b : Bool) → beq (not a) b ≡ not (beq a b)
beq-not false false = refl
beq-not false true = refl
beq-not true false = refl
beq-not true true = refl

and-false : (a : Bool) → (a && false) ≡ false
and-false false = refl
and-false true = refl

-- One failure is enough
every-false : (f : ℕ → Bool) (n i : ℕ) → i < n → f i ≡ false → every f n ≡ false
every-false f n i l e = go (every f n) refl
  where
    go : (b : Bool) → every f n ≡ b → every f n ≡ false
    go false q = q
    go true q = let p = every-at f n q i l in let z : ◌≡◌ {A = ℕ} 0 1 = cc in absurd (omega arith)

module _ {l : List ℕ} {later k i r : ℕ} (s : Walked l later k i r) where
  -- The next remainder, and the test of the next letter
  remainder-next : (r + k) % length l ≡ suc i * k % length l
  remainder-next = rw (s.remainder, mod-add-mod (i * k) (length l) k, suc-mul)

  fits_next : (next : ℕ) → i < length l → next ≡ (r + k) % length l
      → fits (word_of later l) k (length l) i ≡ not (beq (eqb (get_or l i 0) later) (ltb r next))
  fits_next next h e =
      rw (letter-word_of later l i h, ← s.remainder, ← remainder-next, ← e) (beq-not (eqb (get_or l i 0) later) (ltb r next))

  pub walked_next :
      {next : ℕ}
      → i < length l
      → next ≡ (r + k) % length l
      → (0 < i → r ≡ 0 → ⊥)
      → beq (eqb (get_or l i 0) later) (ltb r next) ≡ false
      → Walked l later k (i + 1) next
  walked_next {next} h e z f =
      record {
        small = rw e (mod-lt (r + k) {m = length l} (omega arith));
        remainder = rw add-one (e ∙ remainder-next);
        letters = λ j p. elim (below_suc j i (omega arith)) [ inl d ↦ rw d (fits_next next h e ∙ ap not f) | inr q ↦ s.letters j q ];
        apart =
            λ j m p q. elim (below_suc j i (omega arith)) [ inl d ↦ z (omega arith) (s.remainder ∙ rw d at q) | inr t ↦ s.apart j m t q ];
      }

  -- A letter that fails
  pub walked-misfit :
      (next : ℕ)
      → i < length l
      → next ≡ (r + k) % length l
      → beq (eqb (get_or l i 0) later) (ltb r next) ≡ true
      → false ≡ (coprime k (length l) && remainders (word_of later l) k (length l))
  unfolding remainders
  walked-misfit next h e f =
      rw (every-false (fits (word_of later l) k (length l)) (length l) i h (fits_next next h e ∙ ap not f))
      (sym (and-false (coprime k (length l))))

  -- A remainder 0 before the last
  pub walked-zero : i < length l → 0 < i → r ≡ 0 → false ≡ (coprime k (length l) && remainders (word_of later l) k (length l))
  walked-zero h p e = rw (not-coprime k (length l) i p h (sym s.remainder ∙ e))

  -- Every letter has passed
  pub walked_end : 0 < length l → i ≡ length l → true ≡ (coprime k (length l) && remainders (word_of later l) k (length l))
  unfolding remainders
  walked_end h e =
      rw (
        (coprime-iff k (length l) h).1 (coprime-of-remainders k (length l) h (λ j p q. s.apart j p (omega arith))),
        every_of (fits (word_of later l) k (length l)) (length l) (λ j p. s.letters j (omega arith)),
      )

-- ---- short words

pub christoffel-short : (later : ℕ) (l : List ℕ) → length l < 2 → eqb (length l) 1 ≡ christoffel (word_of later l)
unfolding word_of christoffel
christoffel-short later [] h = refl
christoffel-short later (a ∷ []) h = refl
christoffel-short later (a ∷ b ∷ l) h = absurd (omega arith)

christoffel-tests : (w : Word) → 2 ≤ length w → (coprime (laters w) (length w) && remainders w (laters w) (length w)) ≡ christoffel w
unfolding christoffel
christoffel-tests [] h = absurd (omega arith)
christoffel-tests (a ∷ []) h = absurd (omega arith)
christoffel-tests (a ∷ b ∷ w) h = refl

pub christoffel-long :
    (later : ℕ) (l : List ℕ)
    → 2 ≤ length l
    → (coprime (laters (word_of later l)) (length l) && remainders (word_of later l) (laters (word_of later l)) (length l))
    ≡ christoffel (word_of later l)
christoffel-long later l h = rw (← length-word_of later l) (christoffel-tests (word_of later l) (omega (arith, length-word_of later l)))
