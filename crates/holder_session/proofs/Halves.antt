-- The halves of a close: the first replies as the close does, leaves every question's answer and ends the draft as a drop does; with the
-- second the close is made. Those of a restore: the first leaves all, or clears the place; with the second the restore is made.
use Prim.Native.Nat.{ℕ, ◌+◌, ◌*◌, ◌<◌}
use native.Mathlib.Omega.{arith}
use mathlib.Core.Path.{◌≡◌, refl, sym, ap, ◌∙◌}
use mathlib.Core.Bool.{Bool, true, false, true≢false, and-eq-true_iff}
use mathlib.Core.Logic.{⊎_elim}
use mathlib.Core.List.{List, [], ◌∷◌}
use lib.ListN.{length, get_or, set, length-set}
use lib.Seq.{get_or-set_other}
use borrow.Author.Tests.{leb-false}
use Rattle.chart.specs.Outline.{Outline}
use Rattle.images.specs.Image.{is_image, held_in}
use Rattle.calls.specs.Calls.{parties, places, bad_party, bad_place, by}
use Rattle.calls.specs.declared.Action.TheVariants.{Drop, Close, Ask}
use Rattle.calls.specs.declared.Question.{Question}
use Rattle.holder_model.specs.Book.{Book, acts, answer, restored}
use Rattle.book_replies.proofs.Parties.{close-ends, drop-works}
use Rattle.holder_refinement.proofs.Turns.{draft_at, commit-zero}
use Rattle.holder_memory.specs.Layout.{Holder}
use Rattle.holder_answers.specs.Arrays.{Answered, Preparation}
use Rattle.holder_images.specs.Arrays.{image_prepared, prepare_image_of, restore_of}
use Rattle.holder_memory.specs.Layout.{place_word}
use Rattle.holder_answers.specs.Arrays.{reply, with_heads, prepare_of, commit_of, act_of, answer_of}
use Rattle.holder_memory.specs.Layout.{spot}
use Rattle.holder_answers.proofs.Cases.{close-made}
use Rattle.holder_refinement.proofs.Keeps.{prepare-keeps, commit-one}
use Rattle.holder_refinement.proofs.ListTheorem.{Represents, call-agrees}
use Rattle.holder_refinement.proofs.Restores.{put-own, outline-half, restore-agrees}
use Rattle.holder_session.specs.Booked.{bare, clears}

-- A question leaves every number
pub asks-leave : (h : Holder) (p k : ℕ) (q : Question) → (answer_of h (by p (Ask k q))).holder ≡ h
unfolding answer_of act_of
asks-leave h p k q = go (bad_party p) refl
  where
    go : (t : Bool) → bad_party p ≡ t → (answer_of h (by p (Ask k q))).holder ≡ h
    go true e = rw e
    go false e = rw e

module _ (h : Holder) (p k : ℕ) where
  abbrev n : Holder
  n = (prepare_of h p k).holder

  abbrev w : ℕ
  w = (prepare_of h p k).word

  whole : reply (prepare_of h p k).reply (with_heads n (commit_of n.heads p k w)) ≡ answer_of h (by p (Close k))
  whole = close-made h n p k (prepare_of h p k).reply w refl (commit_of n.heads p k w) refl

  -- The first half has the close's reply, and both leave its arrays
  pub prepare-reply : (prepare_of h p k).reply ≡ (answer_of h (by p (Close k))).reply
  prepare-reply = ap (λ (x : Answered). x.reply) whole

  pub commit-holder : with_heads n (commit_of n.heads p k w) ≡ (answer_of h (by p (Close k))).holder
  commit-holder = ap (λ (x : Answered). x.holder) whole

  -- The second half writes no draft
  same_length : length (commit_of n.heads p k w) ≡ length n.heads
  same_length = ⊎_elim (λ e. rw e) (λ e. rw e.1 (simp length-set)) (commit-one n.heads p k w)

  same-draft : (q : ℕ) → q < parties → draft_at n.letters (commit_of n.heads p k w) q ≡ draft_at n.letters n.heads q
  unfolding draft_at
  same-draft q l =
      ⊎_elim (λ e. rw e)
      (λ e. rw (
        e.1,
        get_or-set_other n.heads (place_word (spot p k)) (4 * q) w 0 (λ z. omega arith),
        get_or-set_other n.heads (place_word (spot p k)) (4 * q + 1) w 0 (λ z. omega arith),
        get_or-set_other n.heads (place_word (spot p k)) (4 * q + 2) w 0 (λ z. omega arith),
        get_or-set_other n.heads (place_word (spot p k)) (4 * q + 3) w 0 (λ z. omega arith),
      ))
      (commit-one n.heads p k w)

  module _ (b : Book) (r : Represents h b) where
    -- After both halves the arrays are those of the book after the close
    pub commit-represents : Represents (with_heads n (commit_of n.heads p k w)) (answer b (by p (Close k))).next
    commit-represents = rw commit-holder (call-agrees h b r (by p (Close k))).1

    -- After the first half alone the arrays are those of a book that dropped the draft
    pub prepare-represents : Represents n (answer b (by p Drop)).next
    prepare-represents =
        record {
          fits =
              record {
                letters = commit-represents.fits.letters;
                rows = commit-represents.fits.rows;
                numbers = commit-represents.fits.numbers;
                heads = sym same_length ∙ commit-represents.fits.heads;
              };
          pages = λ q l. record {
            draft = rw (sym (same-draft q l), sym (close-ends b p q k)) (commit-represents.pages q l).draft;
            works = λ j m. rw (prepare-keeps h r.fits p k q j l m, drop-works b p q) ((r.pages q l).works j m);
          };
        }

-- ---- questions

-- The answer depends on what is at work
pub asks-works : (b d : Book) (p k : ℕ) (q : Question) → (b p).works ≡ (d p).works
    → (answer b (by p (Ask k q))).reply ≡ (answer d (by p (Ask k q))).reply
unfolding answer acts
asks-works b d p k q e = go (bad_party p) refl
  where
    go : (t : Bool) → bad_party p ≡ t → (answer b (by p (Ask k q))).reply ≡ (answer d (by p (Ask k q))).reply
    go true h = rw h
    go false h = rw (h, e)

-- The book stays as it is
pub asks-book : (b : Book) (p k : ℕ) (q : Question) → (answer b (by p (Ask k q))).next ≡ b
unfolding answer acts
asks-book b p k q = go (bad_party p) refl
  where
    go : (t : Bool) → bad_party p ≡ t → (answer b (by p (Ask k q))).next ≡ b
    go true h = rw h
    go false h = rw h (λ i n. put-own b p n i)

-- ---- a restore

bare-word : (h : Holder) (p k : ℕ) (o : Outline) (l : List ℕ) → bare l ≡ true → (image_prepared h p k o l).word ≡ 0
unfolding bare image_prepared
bare-word h p k o [] e = refl
bare-word h p k o (a ∷ l) e = absurd (true≢false (sym e))

image-outline : (h : Holder) (b : Book) → Represents h b → (p : ℕ) → p < parties → (k : ℕ) → k < places → (o : Outline) (l : List ℕ)
    → bare l ≡ false → Represents (image_prepared h p k o l).holder b
unfolding bare image_prepared
image-outline h b r p there k inside o [] e = absurd (true≢false e)
image-outline h b r p there k inside o (a ∷ l) e = outline-half h b r p there k inside o

module _ (h : Holder) (p k : ℕ) (bytes : List ℕ) where
  abbrev first : Preparation
  first = prepare_image_of h p k bytes

  -- The image of an empty place leaves nothing to the second half
  pub clears-word : clears bytes ≡ true → first.word ≡ 0
  unfolding prepare_image_of clears
  clears-word e =
      let both = (and-eq-true_iff (is_image bytes) (bare (held_in bytes).letters)).0 e in
      go (bad_party p) (bad_place k) refl refl both.0 (bare-word h p k (held_in bytes) (held_in bytes).letters both.1)
    where
      go : (t u : Bool) → bad_party p ≡ t → bad_place k ≡ u → is_image bytes ≡ true
          → (image_prepared h p k (held_in bytes) (held_in bytes).letters).word ≡ 0 → first.word ≡ 0
      go true u a b i z = rw a
      go false true a b i z = rw (a, b)
      go false false a b i z = rw (a, b, i) z

  module _ (b : Book) (r : Represents h b) where
    pub image-reply : first.reply ≡ (restored b p k bytes).reply
    unfolding restore_of
    image-reply = (restore-agrees h b r p k bytes).0

    -- After both halves the arrays are those of the book after the restore
    pub image-done : Represents (with_heads first.holder (commit_of first.holder.heads p k first.word)) (restored b p k bytes).next
    unfolding restore_of
    image-done = (restore-agrees h b r p k bytes).1

    -- So they are after the first half, if the second writes nothing
    pub image-cleared : clears bytes ≡ true → Represents first.holder (restored b p k bytes).next
    image-cleared e =
        rw (clears-word e, commit-zero first.holder.heads p k) at image-done

    -- Otherwise the first half alone leaves the book as it was
    pub image-half : clears bytes ≡ false → Represents first.holder b
    unfolding prepare_image_of clears
    image-half e = go (bad_party p) (bad_place k) (is_image bytes) refl refl refl
      where
        go : (t u i : Bool) → bad_party p ≡ t → bad_place k ≡ u → is_image bytes ≡ i → Represents first.holder b
        go true u i c d m = rw c r
        go false true i c d m = rw (c, d) r
        go false false false c d m = rw (c, d, m) r
        go false false true c d m =
            rw (c, d, m)
            (image-outline h b r p (leb-false parties p c) k (leb-false places k d) (held_in bytes) (held_in bytes).letters (rw m at e))
