-- With five slots and four places a party always has a slot that no place names, whatever the heads hold. The loops that look for it.
use Prim.Native.Nat.{ℕ, zero, suc, ◌+◌, ◌*◌, ◌≤◌, ◌<◌}
use native.Mathlib.Omega.{arith}
use mathlib.Core.Path.{◌≡◌, refl, sym, ◌∙◌}
use mathlib.Core.Bool.{Bool, true, false, cond, not, true≢false}
use mathlib.Core.Logic.{◌⊎◌, inl, inr, ⊎_elim}
use mathlib.Core.List.{List}
use lib.ListN.{get_or}
use lib.Dec.{ltb, eqb}
use borrow.Author.Tests.{ltb-true, ltb-false, le-ltb, lt-ltb, eqb-true, eqb-false, eq-eqb, ne_eqb, not-true, not-false}
use Rattle.base.specs.Below.{first, some_below, every}
use Rattle.base.proofs.BelowLaws.{below_suc, first_found, first-before, first-none-at, first_step, first-stop, some_of, every-at}
use Rattle.calls.specs.Calls.{parties, places}
use Rattle.holder_memory.specs.Layout.{own, slots, slot_own, place_word}
use Rattle.holder_memory.specs.Words.{word_of, tag_of, slot_of, named, free_tag, free_slot}

-- ---- how many numbers below n pass a test

count : (ℕ → Bool) → ℕ → ℕ
count f zero = 0
count f (suc n) = count f n + cond (f n) 1 0

count-all : (f : ℕ → Bool) (n : ℕ) → ((i : ℕ) → i < n → f i ≡ true) → count f n ≡ n
unfolding count
count-all f zero h = refl
count-all f (suc n) h = rw (h n (omega arith), count-all f n (λ i l. h i (omega arith))) (omega arith)

count_none : (f : ℕ → Bool) (n : ℕ) → ((i : ℕ) → i < n → f i ≡ false) → count f n ≡ 0
unfolding count
count_none f zero h = refl
count_none f (suc n) h = rw (h n (omega arith), count_none f n (λ i l. h i (omega arith))) (omega arith)

-- One number equals at most one of them
count-one : (x n : ℕ) → count (λ t. eqb x t) n ≤ 1
unfolding count
count-one x zero = omega arith
count-one x (suc n) = go (eqb x n) refl (count-one x n)
  where
    go : (t : Bool) → eqb x n ≡ t → count (λ t. eqb x t) n ≤ 1 → count (λ t. eqb x t) n + cond t 1 0 ≤ 1
    go true e b =
        let z : count (λ t. eqb x t) n ≡ 0 = count_none (λ t. eqb x t) n (λ i l. ne_eqb x i (λ q. omega (arith, eqb-true x n e))) in
        omega arith
    go false e b = omega arith

-- What passes f passes a or b
count-or : (f a b : ℕ → Bool) (n : ℕ) → ((t : ℕ) → f t ≡ true → (a t ≡ true) ⊎ (b t ≡ true)) → count f n ≤ count a n + count b n
unfolding count
count-or f a b zero h = omega arith
count-or f a b (suc n) h = go (f n) (a n) (b n) refl refl refl (count-or f a b n h)
  where
    go : (x y z : Bool) → f n ≡ x → a n ≡ y → b n ≡ z → count f n ≤ count a n + count b n
        → count f n + cond x 1 0 ≤ count a n + cond y 1 0 + (count b n + cond z 1 0)
    go false y z e u v l = omega arith
    go true true z e u v l = omega arith
    go true false true e u v l = omega arith
    go true false false e u v l =
        absurd (⊎_elim (λ q. true≢false (sym q ∙ u)) (λ q. true≢false (sym q ∙ v)) (h n e))

-- ---- the pigeonhole: k numbers name at most k of the slots

some-split : (f : ℕ → Bool) (k : ℕ) → some_below f (suc k) ≡ true → (some_below f k ≡ true) ⊎ (f k ≡ true)
unfolding some_below
some-split f k e =
    let l : first f (suc k) < suc k = ltb-true (first f (suc k)) (suc k) e in
    let here : f (first f (suc k)) ≡ true = first_found f (suc k) l in
    ⊎_elim (λ q. inr (rw q at here)) (λ q. inl (some_of f k (first f (suc k)) q here)) (below_suc (first f (suc k)) k l)

some-zero : (f : ℕ → Bool) → some_below f zero ≡ false
unfolding some_below first
some-zero f = refl

named-few : (g : ℕ → ℕ) (k n : ℕ) → count (λ t. some_below (λ s. eqb (g s) t) k) n ≤ k
named-few g zero n =
    let z : count (λ t. some_below (λ s. eqb (g s) t) zero) n ≡ 0 = count_none (λ t. some_below (λ s. eqb (g s) t) zero) n
    (λ t l. some-zero (λ s. eqb (g s) t)) in
    omega arith
named-few g (suc k) n =
    omega (
      arith,
      count-or (λ t. some_below (λ s. eqb (g s) t) (suc k)) (λ t. some_below (λ s. eqb (g s) t) k) (λ t. eqb (g k) t) n
          (λ t e. some-split (λ s. eqb (g s) t) k e),
      named-few g k n,
      count-one (g k) n,
    )

module _ (heads : List ℕ) (p : ℕ) where
  abbrev pub tag_in : ℕ → ℕ
  tag_in k = tag_of (get_or heads (place_word (places * p + k)) 0)

  abbrev pub unnamed : ℕ → Bool
  unnamed t = not (named heads p t)

  -- Five slots against four places
  pub tag_below : free_tag heads p < own
  unfolding free_tag named
  tag_below = go (ltb (first unnamed own) own) refl
    where
      go : (b : Bool) → ltb (first unnamed own) own ≡ b → first unnamed own < own
      go true e = ltb-true (first unnamed own) own e
      go false e =
          let all : count (named heads p) own ≡ own =
          count-all (named heads p) own (λ t l. not-false (named heads p t)
          (first-before unnamed own t (omega (arith, ltb-false (first unnamed own) own e)))) in
          let few : count (named heads p) own ≤ places = named-few tag_in places own in
          absurd (omega arith)

  yes : (t k : ℕ) → k < places → tag_in k ≡ t → named heads p t ≡ true
  unfolding named
  yes t k l e = some_of (λ i. eqb (tag_in i) t) places k l (eq-eqb _ _ e)

  -- No place of the party names it
  pub tag-apart : (k : ℕ) → k < places → tag_in k ≡ free_tag heads p → ⊥
  unfolding free_tag
  tag-apart k l e =
      let no : named heads p (free_tag heads p) ≡ false = not-true _ (first_found unnamed own tag_below) in
      true≢false (sym (yes (free_tag heads p) k l e) ∙ no)

  -- ---- the loops

  module _ (t : ℕ) where
    abbrev pub names : ℕ → Bool
    names k = eqb (tag_in k) t

    pub named_here : (k x : ℕ) → k < places → x ≡ tag_in k → x ≡ t → true ≡ named heads p t
    unfolding named
    named_here k x l e q = sym (some_of names places k l (eq-eqb _ t (sym e ∙ q)))

    pub named-next : (k x : ℕ) → first names k ≡ k → x ≡ tag_in k → (x ≡ t → ⊥) → first names (k + 1) ≡ k + 1
    named-next k x f e q = first_step names k f (ne_eqb _ t (λ z. q (e ∙ z)))

    pub named_none : (k : ℕ) → first names k ≡ k → k ≡ places → false ≡ named heads p t
    unfolding named some_below
    named_none k f e = sym (le-ltb (first names places) places (omega (arith, rw e at f)))

  pub free-here : (t : ℕ) (b : Bool) → t < own → first unnamed t ≡ t → b ≡ named heads p t → not b ≡ true → t ≡ free_tag heads p
  unfolding free_tag
  free-here t b l f e q = sym (first-stop unnamed own t f (rw e at q) l)

  pub free-next : (t : ℕ) (b : Bool) → first unnamed t ≡ t → b ≡ named heads p t → not b ≡ false → first unnamed (t + 1) ≡ t + 1
  free-next t b f e q = first_step unnamed t f (rw e at q)

  -- If places name all slots before the fifth, it is the fifth
  pub free-last : (t : ℕ) → first unnamed t ≡ t → t ≡ places → places ≡ free_tag heads p
  unfolding free_tag
  free-last t f e = go (ltb (first unnamed own) places) refl
    where
      go : (b : Bool) → ltb (first unnamed own) places ≡ b → places ≡ first unnamed own
      go true l =
          absurd (true≢false (sym (first_found unnamed own tag_below)
          ∙ first-none-at unnamed places (rw e at f) (first unnamed own) (ltb-true (first unnamed own) places l)))
      go false l = omega (arith, tag_below, ltb-false (first unnamed own) places l)

-- ---- the slot that a number names

-- One of the party's five, or none
pub slot-own : (p w : ℕ) → ((tag_of w < own) × (slot_of p w ≡ slot_own p (tag_of w))) ⊎ ((own ≤ tag_of w) × (slot_of p w ≡ slots))
unfolding slot_of
slot-own p w = go (ltb (tag_of w) own) refl
  where
    go : (b : Bool) → ltb (tag_of w) own ≡ b → ((tag_of w < own) × (cond b (slot_own p (tag_of w)) slots ≡ slot_own p (tag_of w)))
        ⊎ ((own ≤ tag_of w) × (cond b (slot_own p (tag_of w)) slots ≡ slots))
    go true e = inl (ltb-true (tag_of w) own e, refl)
    go false e = inr (ltb-false (tag_of w) own e, refl)

pub slot-named : (p w t : ℕ) → t ≡ tag_of w → t < own → own * p + t ≡ slot_of p w
unfolding slot_of
slot-named p w t e l = rw (sym e, lt-ltb t own l)

pub slot-none : (p w t : ℕ) → t ≡ tag_of w → own ≤ t → slots ≡ slot_of p w
unfolding slot_of
slot-none p w t e l = rw (sym e, le-ltb t own l)

-- A place names a slot of its own party or none, whatever it holds
pub names-own : (p w t : ℕ) → slot_of p w ≡ t → t < slots → (own * p ≤ t) × (t < own * p + own)
names-own p w t e l =
    ⊎_elim (λ x. (omega (arith, x.0, x.1), omega (arith, x.0, x.1))) (λ x. absurd (omega (arith, x.1))) (slot-own p w)

module _ (heads : List ℕ) (p : ℕ) (there : p < parties) where
  pub free-below : free_slot heads p < slots
  free-below = omega (arith, tag_below heads p)

  -- No place of either party names it
  pub free-apart : (q k : ℕ) → q < parties → k < places → slot_of q (get_or heads (place_word (places * q + k)) 0) ≡ free_slot heads p → ⊥
  free-apart q k m l e =
      ⊎_elim
      (λ x. let same : q ≡ p = omega (arith, x.0, x.1, tag_below heads p) in
      tag-apart heads p k l (rw same at (tags x)))
      (λ x. omega (arith, x.1, tag_below heads p))
      (slot-own q (get_or heads (place_word (places * q + k)) 0))
    where
      tags : (tag_in heads q k < own) × (slot_of q (get_or heads (place_word (places * q + k)) 0) ≡ slot_own q (tag_in heads q k))
          → tag_in heads q k ≡ free_tag heads p
      tags x = omega (arith, x.0, x.1, tag_below heads p)

-- ---- the words

-- The word of a slot names it, and is not 0
words-name : every (λ t. eqb (tag_of (word_of t)) t) own ≡ true
unfolding every tag_of word_of
words-name = refl

words-not-zero : every (λ t. not (eqb (word_of t) 0)) own ≡ true
unfolding every word_of
words-not-zero = refl

pub word_own : (t : ℕ) → t < own → tag_of (word_of t) ≡ t
word_own t l = eqb-true (tag_of (word_of t)) t (every-at (λ t. eqb (tag_of (word_of t)) t) own words-name t l)

pub word-names : (p t : ℕ) → t < own → slot_of p (word_of t) ≡ slot_own p t
word-names p t l = sym (slot-named p (word_of t) t (sym (word_own t l)) l)

pub word-not-zero : (t : ℕ) → t < own → word_of t ≡ 0 → ⊥
word-not-zero t l = eqb-false (word_of t) 0 (not-true _ (every-at (λ t. not (eqb (word_of t) 0)) own words-not-zero t l))
