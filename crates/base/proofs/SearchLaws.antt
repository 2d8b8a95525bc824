-- A search of a list by its places is what the methods of a list give: `position`, `any` and `all`; and the step of a loop that keeps
-- whether some place or every place so far passes.
use Prim.Native.Nat.{ℕ, zero, suc, ◌+◌, ◌≤◌, ◌<◌}
use native.Mathlib.Numerals.{add-one}
use native.Mathlib.Omega.{arith}
use mathlib.Core.Path.{◌≡◌, refl, sym, ap, ◌∙◌}
use mathlib.Core.Bool.{Bool, true, false, cond, ◌&&◌, ◌||◌}
use mathlib.Core.List.{List, [], ◌∷◌}
use lib.ListN.{length, get_or}
use lib.Dec.{ltb}
use borrow.Author.Tests.{ltb-true, ltb-false, lt-ltb, le-ltb}
use Rattle.std.specs.Prelude.{Some, None}
use Rattle.std.specs.List.{position, position_or_len, list_any, list_all}
use Rattle.std.specs.Option.{unwrap_or}
use Rattle.std.proofs.lemmas.List.Sums.{position_or_len_is}
use Rattle.base.specs.Below.{every, further, first, some_below}
use Rattle.base.proofs.BelowLaws.{first-le, first_found, first-before}

module _ {X : Type 0} (p : X → Bool) (d : X) (xs : List X) where
  -- The test of the place i of the list
  abbrev tested : ℕ → Bool
  tested i = p (get_or xs i d)

  -- ---- `position`

  pub place-first : position_or_len p xs ≡ first (λ i. p (get_or xs i d)) (length xs)
  place-first = position_or_len_is p xs _ d (first-le tested (length xs)) (first-before tested (length xs)) (first_found tested (length xs))

  pub position-first : unwrap_or (position p xs) (length xs) ≡ first (λ i. p (get_or xs i d)) (length xs)
  position-first = go (ltb (position_or_len p xs) (length xs)) refl ∙ place-first
    where
      go : (b : Bool) → ltb (position_or_len p xs) (length xs) ≡ b
          → unwrap_or (cond b (Some (position_or_len p xs)) None) (length xs) ≡ position_or_len p xs
      go true e = refl
      go false e =
          let m : first tested (length xs) ≤ length xs = first-le tested (length xs) in
          omega (arith, ltb-false _ _ e, place-first)

-- ---- the steps of a loop

some_suc : (f : ℕ → Bool) (n : ℕ) → some_below f (suc n) ≡ (some_below f n || f n)
unfolding some_below first further
some_suc f n = go (ltb (first f n) n) (f n) refl
  where
    go : (b c : Bool) → ltb (first f n) n ≡ b → ltb (further b c (first f n) n) (suc n) ≡ (b || c)
    go true c e = let m : first f n < n = ltb-true _ _ e in lt-ltb _ _ (omega arith)
    go false true e = lt-ltb _ _ (omega arith)
    go false false e = le-ltb _ _ (omega arith)

pub some_next : (f : ℕ → Bool) (n : ℕ) → some_below f (n + 1) ≡ (some_below f n || f n)
some_next f n = rw add-one (some_suc f n)

pub some_at_start : (f : ℕ → Bool) → some_below f 0 ≡ false
unfolding some_below first
some_at_start f = refl

pub every-next : (f : ℕ → Bool) (n : ℕ) → every f (n + 1) ≡ (every f n && f n)
unfolding every
every-next f n = rw add-one

-- ---- `any` and `all`

some-from_zero : (f : ℕ → Bool) (n : ℕ) → some_below f (suc n) ≡ (f 0 || some_below (λ i. f (suc i)) n)
unfolding some_below first
some-from_zero f zero = some_suc f 0 ∙ none (f 0)
  where
    none : (b : Bool) → (some_below f 0 || b) ≡ (b || some_below (λ i. f (suc i)) 0)
    none true = refl
    none false = refl
some-from_zero f (suc n) =
    some_suc f (suc n) ∙ ap (λ (b : Bool). b || f (suc n)) (some-from_zero f n) ∙ grouped (f 0)
    ∙ ap (λ (b : Bool). f 0 || b) (sym (some_suc (λ i. f (suc i)) n))
  where
    grouped : (b : Bool) → ((b || some_below (λ i. f (suc i)) n) || f (suc n)) ≡ (b || (some_below (λ i. f (suc i)) n || f (suc n)))
    grouped true = refl
    grouped false = refl

every-from_zero : (f : ℕ → Bool) (n : ℕ) → every f (suc n) ≡ (f 0 && every (λ i. f (suc i)) n)
unfolding every
every-from_zero f zero = none (f 0)
  where
    none : (b : Bool) → b ≡ (b && true)
    none true = refl
    none false = refl
every-from_zero f (suc n) = ap (λ (b : Bool). b && f (suc n)) (every-from_zero f n) ∙ grouped (f 0)
  where
    grouped : (b : Bool) → ((b && every (λ i. f (suc i)) n) && f (suc n)) ≡ (b && (every (λ i. f (suc i)) n && f (suc n)))
    grouped true = refl
    grouped false = refl

pub any-some : {X : Type 0} (p : X → Bool) (d : X) (xs : List X) → list_any p xs ≡ some_below (λ i. p (get_or xs i d)) (length xs)
unfolding some_below first
any-some p d [] = refl
any-some p d (x ∷ xs) = ap (λ (b : Bool). p x || b) (any-some p d xs) ∙ sym (some-from_zero (λ i. p (get_or (x ∷ xs) i d)) (length xs))

pub all-every : {X : Type 0} (p : X → Bool) (d : X) (xs : List X) → list_all p xs ≡ every (λ i. p (get_or xs i d)) (length xs)
unfolding every
all-every p d [] = refl
all-every p d (x ∷ xs) = ap (λ (b : Bool). p x && b) (all-every p d xs) ∙ sym (every-from_zero (λ i. p (get_or (x ∷ xs) i d)) (length xs))

-- No place passes exactly if the search runs to the end
pub first-of-none : (f : ℕ → Bool) (n : ℕ) → some_below f n ≡ false → first f n ≡ n
unfolding some_below
first-of-none f n e = let m : first f n ≤ n = first-le f n in omega (arith, ltb-false (first f n) n e)
