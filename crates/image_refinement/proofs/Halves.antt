-- The first half of a restore writes the slot that no place names, as that of a close does. So every question gets the answer from before it,
-- whatever the arrays hold, and no number of the other party is written.
use Rattle.std.specs.Prelude.{Result, Ok, Err}
use Prim.Native.Nat.{ℕ, ◌<◌}
use mathlib.Core.Path.{◌≡◌, refl}
use mathlib.Core.Bool.{Bool, true, false}
use mathlib.Core.List.{List, [], ◌∷◌}
use borrow.Author.Tests.{leb-false}
use Rattle.chart.specs.Outline.{Outline}
use Rattle.chart.specs.declared.Refusal.{Refusal}
use Rattle.chart.specs.declared.Taken.{Taken}
use Rattle.judge.specs.Judged.{judged_of}
use Rattle.calls.specs.Calls.{parties, places, bad_party, bad_place, by}
use Rattle.calls.specs.declared.Action.TheVariants.{Ask}
use Rattle.calls.specs.declared.Question.{Question}
use Rattle.images.specs.Image.{is_image, held_in}
use Rattle.holder_memory.specs.Layout.{Holder, Fits}
use Rattle.holder_memory.specs.Words.{free_slot}
use Rattle.holder_answers.specs.Arrays.{Preparation, outline_prepared_by, commit_of, committed, answer_of}
use Rattle.holder_images.specs.Arrays.{image_prepared, prepare_image_of, restore_of}
use Rattle.holder_refinement.specs.Stores.{SameWorks}
use Rattle.holder_refinement.proofs.Sizes.{judged-size}
use Rattle.holder_refinement.proofs.Keeps.{Beside, beside-self, filled_beside, keeps, asks-same}
use Rattle.holder_refinement.proofs.Numbers.{OthersKept, kept_self, kept_next, filled-kept, worded-kept, commit-kept}

module _ (h : Holder) (fit : Fits h) (p : ℕ) (there : p < parties) where
  -- ---- what is written, in the free slot

  by-verdict : (k : ℕ) (o : Outline) (v : Result Taken Refusal)
      → Beside h (outline_prepared_by h p k o (judged_of o) v).holder (free_slot h.heads p)
  unfolding outline_prepared_by
  by-verdict k o (Err f) = beside-self h (free_slot h.heads p)
  by-verdict k o (Ok t) = filled_beside h fit p there t.anchor (judged_of o).numbers t.edges o (judged-size o)

  with-letters : (k : ℕ) (o : Outline) (w : List ℕ) → (w ≡ [] → ⊥) → Beside h (image_prepared h p k o w).holder (free_slot h.heads p)
  unfolding image_prepared
  with-letters k o [] some = absurd (some refl)
  with-letters k o (a ∷ w) some = by-verdict k o (judged_of o).verdict

  -- ---- what is written, of the party

  own-verdict : (k : ℕ) (o : Outline) (v : Result Taken Refusal) → OthersKept h (outline_prepared_by h p k o (judged_of o) v).holder p
  unfolding outline_prepared_by
  own-verdict k o (Err f) = kept_self h p
  own-verdict k o (Ok t) = filled-kept h fit p there t.anchor (judged_of o).numbers t.edges o (judged-size o)

  own-letters : (k : ℕ) (o : Outline) (w : List ℕ) → k < places → OthersKept h (image_prepared h p k o w).holder p
  unfolding image_prepared
  own-letters k o [] m = worded-kept h p there k 0 m
  own-letters k o (a ∷ w) m = own-verdict k o (judged_of o).verdict

  own-prepared : (k : ℕ) (b : List ℕ) → OthersKept h (prepare_image_of h p k b).holder p
  unfolding prepare_image_of
  own-prepared k b = go (bad_party p) (bad_place k) (is_image b) refl refl refl
    where
      go : (s t u : Bool) → bad_party p ≡ s → bad_place k ≡ t → is_image b ≡ u → OthersKept h (prepare_image_of h p k b).holder p
      go true t u e f g = rw e (kept_self h p)
      go false true u e f g = rw (e, f) (kept_self h p)
      go false false true e f g = rw (e, f, g) (own-letters k (held_in b) (held_in b).letters (leb-false places k f))
      go false false false e f g = rw (e, f, g) (kept_self h p)

-- The first half leaves the outline at work at every place, unless the image is that of an empty place, which it clears
pub image-keeps : (h : Holder) → Fits h → (p k : ℕ) (b : List ℕ) → (is_image b ≡ true → (held_in b).letters ≡ [] → ⊥)
    → SameWorks h (prepare_image_of h p k b).holder
unfolding prepare_image_of
image-keeps h fit p k b some = go (bad_party p) (bad_place k) (is_image b) refl refl refl
  where
    go : (s t u : Bool) → bad_party p ≡ s → bad_place k ≡ t → is_image b ≡ u → SameWorks h (prepare_image_of h p k b).holder
    go true t u e f g = rw e (λ q j l m. refl)
    go false true u e f g = rw (e, f) (λ q j l m. refl)
    go false false true e f g =
        rw (e, f, g)
        (keeps h _ p (leb-false parties p e) (with-letters h fit p (leb-false parties p e) k (held_in b) (held_in b).letters (some g)))
    go false false false e f g = rw (e, f, g) (λ q j l m. refl)

-- And so the answer to every question
pub image-asks : (h : Holder) → Fits h → (p k : ℕ) (b : List ℕ) → (is_image b ≡ true → (held_in b).letters ≡ [] → ⊥)
    → (q j : ℕ) (x : Question)
    → (answer_of (prepare_image_of h p k b).holder (by q (Ask j x))).reply ≡ (answer_of h (by q (Ask j x))).reply
image-asks h fit p k b some = asks-same h (prepare_image_of h p k b).holder (image-keeps h fit p k b some)

-- A restore with a party above 1 leaves everything
bad-party : (h : Holder) (p k : ℕ) (b : List ℕ) → bad_party p ≡ true → OthersKept h (committed p k (prepare_image_of h p k b)).holder p
unfolding prepare_image_of commit_of
bad-party h p k b e = rw e (kept_self h p)

-- A restore of party p leaves every number of the arrays that is not of party p
pub restore-numbers : (h : Holder) → Fits h → (p k : ℕ) (b : List ℕ) → OthersKept h (restore_of h p k b).holder p
unfolding restore_of
restore-numbers h fit p k b = go (bad_party p) refl
  where
    go : (s : Bool) → bad_party p ≡ s → OthersKept h (committed p k (prepare_image_of h p k b)).holder p
    go true e = bad-party h p k b e
    go false e =
        let there : p < parties = leb-false parties p e in
        let q : Preparation = prepare_image_of h p k b in
        kept_next h q.holder _ p (own-prepared h fit p there k b) (commit-kept q.holder p there k q.word)
