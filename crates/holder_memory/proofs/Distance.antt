-- The words lie far apart: up to seven flipped bits of a word never name another slot, and of 0 or 65535 never name one.
use Prim.Native.Nat.{ℕ, ◌≤◌, ◌<◌}
use native.Mathlib.Omega.{arith}
use mathlib.Core.Path.{◌≡◌, refl, sym, ap, ◌∙◌}
use mathlib.Core.Bool.{Bool, true, false, cond, ◌||◌}
use mathlib.Core.Logic.{◌⊎◌, inl, inr, ⊎_elim}
use lib.Dec.{leb, ltb, eqb}
use borrow.Author.Tests.{ltb-true, ltb-false, leb-true, eqb-true}
use Rattle.base.specs.Below.{every}
use Rattle.base.proofs.BelowLaws.{every-at}
use Rattle.holder_memory.specs.Layout.{own, slots, slot_own}
use Rattle.holder_memory.specs.Words.{word_of, tag_of, slot_of, distance, apart, far_apart, far_from}
use Rattle.holder_memory.proofs.Free.{slot-named, slot-none, word_own}

pub words-apart : far_apart ≡ true
unfolding far_apart every distance word_of
words-apart = refl

pub words-from-zero : far_from 0 ≡ true
unfolding far_from every distance word_of
words-from-zero = refl

pub words-from-ones : far_from 65535 ≡ true
unfolding far_from every distance word_of
words-from-ones = refl

-- One test of `tag_of`
pick : (w v i x : ℕ) → v ≡ word_of i → (x < own → w ≡ word_of x) → cond (eqb w v) i x < own → w ≡ word_of (cond (eqb w v) i x)
pick w v i x word rest = go (eqb w v) refl
  where
    go : (t : Bool) → eqb w v ≡ t → cond t i x < own → w ≡ word_of (cond t i x)
    go true e l = eqb-true w v e ∙ word
    go false e l = rest l

-- A number that names a slot is its word
pub names-word : (w : ℕ) → tag_of w < own → w ≡ word_of (tag_of w)
unfolding tag_of word_of
names-word w =
    pick w 21845 0 _ refl (pick w 13107 1 _ refl (pick w 26214 2 _ refl (pick w 3855 3 _ refl
    (pick w 23130 4 5 refl (λ l. absurd (omega arith))))))

-- A number names a slot exactly if it is its word
pub word-tag : (w t : ℕ) → t < own → w ≡ word_of t → tag_of w ≡ t
word-tag w t l e = rw e (word_own t l)

pub other-tag : (w t : ℕ) → t < own → (w ≡ word_of t → ⊥) → tag_of w ≡ t → ⊥
other-tag w t l differ e = differ (names-word w (rw e l) ∙ ap word_of e)

none_or : (w : ℕ) → (tag_of w < own) ⊎ (own ≤ tag_of w)
none_or w = go (ltb (tag_of w) own) refl
  where
    go : (t : Bool) → ltb (tag_of w) own ≡ t → (tag_of w < own) ⊎ (own ≤ tag_of w)
    go true e = inl (ltb-true (tag_of w) own e)
    go false e = inr (ltb-false (tag_of w) own e)

far : (x y : ℕ) → x < own → y < own → (x ≡ y) ⊎ (8 ≤ apart (word_of x) (word_of y))
unfolding far_apart
far x y l m = go (eqb x y) (leb 8 (apart (word_of x) (word_of y))) refl refl (every-at _ own (every-at _ own words-apart x l) y m)
  where
    go : (t u : Bool) → eqb x y ≡ t → leb 8 (apart (word_of x) (word_of y)) ≡ u → (t || u) ≡ true
        → (x ≡ y) ⊎ (8 ≤ apart (word_of x) (word_of y))
    go true u e f o = inl (eqb-true x y e)
    go false u e f o = inr (leb-true 8 (apart (word_of x) (word_of y)) (f ∙ o))

-- A word with up to seven flipped bits names its slot or none
pub flipped : (w t : ℕ) → t < own → apart w (word_of t) < 8 → (tag_of w ≡ t) ⊎ (own ≤ tag_of w)
flipped w t l d =
    ⊎_elim
    (λ m. ⊎_elim (λ e. inl e)
    (λ b. absurd (omega (arith, ap (λ (x : ℕ). apart x (word_of t)) (names-word w m)))) (far (tag_of w) t m l))
    inr (none_or w)

-- So a place whose word has up to seven flipped bits names the same slot or none
pub word-flipped : (p w t : ℕ) → t < own → apart w (word_of t) < 8 → (slot_of p w ≡ slot_own p t) ⊎ (slot_of p w ≡ slots)
word-flipped p w t l d =
    ⊎_elim (λ e. inl (sym (slot-named p w t (sym e) l))) (λ b. inr (sym (slot-none p w (tag_of w) refl b))) (flipped w t l d)

far_from-apart : (v w : ℕ) → far_from v ≡ true → apart w v < 8 → own ≤ tag_of w
unfolding far_from
far_from-apart v w f d =
    ⊎_elim
    (λ m. absurd
    (omega (
      arith,
      ap (λ (x : ℕ). apart x v) (names-word w m),
      leb-true 8 (apart (word_of (tag_of w)) v)
          (every-at (λ t. leb 8 (apart (word_of t) v)) own f (tag_of w) m),
    )))
    (λ b. b) (none_or w)

-- A cleared place with up to seven flipped bits, or a word of ones with as many, names none
pub cleared-flipped : (p w : ℕ) → apart w 0 < 8 → slot_of p w ≡ slots
cleared-flipped p w d = sym (slot-none p w (tag_of w) refl (far_from-apart 0 w words-from-zero d))

pub ones-flipped : (p w : ℕ) → apart w 65535 < 8 → slot_of p w ≡ slots
ones-flipped p w d = sym (slot-none p w (tag_of w) refl (far_from-apart 65535 w words-from-ones d))
