-- What a check, a save and a restore do, in plain words, for every content of the arrays.
use Rattle.std.specs.Prelude.{Err, Ok}
use Prim.Native.Nat.{ℕ, ◌≤◌, ◌<◌}
use native.Mathlib.Decide.{ℕ_discrete}
use mathlib.Core.Path.{◌≡◌, refl, sym, ap, ◌∙◌}
use mathlib.Core.Logic.{◌↔◌, ◌⊎◌, inl, inr, ⊎_elim}
use mathlib.Core.Bool.{true, false}
use mathlib.Core.List.{List, [], ◌∷◌, ◌++◌}
use lib.ListN.{length, drop}
use lib.Dec.{eqb}
use borrow.Author.Tests.{lt-leb, le-ltb, eq-eqb, ne_eqb}
use Rattle.base.proofs.BelowLaws.{not-held}
use Rattle.chart.specs.Outline.{Outline}
use Rattle.chart.specs.declared.Refusal.{Refusal}
use Rattle.chart.specs.declared.Refusal.TheVariants.{Image, Damaged}
use Rattle.convexity.specs.Clockwise.{border}
use Rattle.convexity.proofs.Border.{border-form}
use Rattle.judge.specs.Judged.{judged_of}
use Rattle.calls.specs.Calls.{parties, places}
use Rattle.calls.specs.Replies.{Reply}
use Rattle.calls.specs.declared.Answer.TheVariants.{Done}
use Rattle.border_model.proofs.Outlines.{taken-has}
use Rattle.images.specs.Image.{image_bytes, image_of, IsImage, is_image}
use Rattle.images.proofs.Images.{image-held, image-of}
use Rattle.holder_memory.specs.Layout.{Holder, spot}
use Rattle.holder_answers.specs.Arrays.{reply, preparation, work_in, with_heads, worded, committed, outline_prepared}
use Rattle.holder_answers.proofs.Cases.{commit-none, outline-refused}
use Rattle.holder_images.specs.Whole.{WorkOf, own_border, whole, word_in, whole_at, border_in, Sound}
use Rattle.holder_images.specs.Arrays.{check_of, saved, save_of, image_prepared, prepare_image_of, restore_of}
use Rattle.holder_images.proofs.WholeLaws.{whole-iff}

-- ---- a place

whole-at : (h : Holder) (p k : ℕ) → (whole_at h p k ≡ true) ↔ Sound h p k
unfolding whole_at
whole-at h p k =
    elim (ℕ_discrete (word_in h p k) 0) [
      | yes e ↦ (λ t. inl e, λ s. rw (eq-eqb (word_in h p k) 0 e) refl)
      | no n ↦ (
        λ t. inr ((whole-iff (work_in h p k)).0 (rw (ne_eqb (word_in h p k) 0 n) at t)),
        λ s. rw (ne_eqb (word_in h p k) 0 n) (⊎_elim (λ e. absurd (n e)) (λ w. (whole-iff (work_in h p k)).1 w) s),
      )
    ]

-- The image that a save writes is that of the border of the outline at work, whichever outline was taken there
pub border-own : (h : Holder) (p k : ℕ) (o : Outline) → (word_in h p k ≡ 0 → ⊥) → WorkOf (work_in h p k) o → border_in h p k ≡ border o
unfolding border_in own_border
border-own h p k o n w = rw (ne_eqb (word_in h p k) 0 n) (sym (border-form (taken-has w.taken)))

module _ (h : Holder) (p : ℕ) (l : p < parties) (k : ℕ) (m : k < places) where
  -- ---- check

  -- A check says yes exactly when the place is sound, and else 27
  pub check_sound : Sound h p k → check_of h p k ≡ Ok Done
  unfolding check_of
  check_sound s = rw (lt-leb parties p l, lt-leb places k m, (whole-at h p k).1 s) refl

  pub check-else : (Sound h p k → ⊥) → check_of h p k ≡ Err Damaged
  unfolding check_of
  check-else n = rw (lt-leb parties p l, lt-leb places k m, not-held (whole_at h p k) (λ t. n ((whole-at h p k).0 t))) refl

  -- ---- save

  -- The image stands first in the buffer, and the rest of it is unchanged
  pub save-sound : Sound h p k → (b : List ℕ) → image_bytes ≤ length b
      → save_of h p k b ≡ saved (Ok Done) (image_of (border_in h p k) ++ drop image_bytes b)
  unfolding save_of
  save-sound s b room =
      rw (lt-leb parties p l, lt-leb places k m, (whole-at h p k).1 s, le-ltb (length b) image_bytes room) refl

  -- ---- restore

  -- A first half whose word is 0 is all of a restore
  done_first : (r : Reply) (n : Holder) → committed p k (preparation r 0 n) ≡ reply r n
  done_first r n = ap (λ (x : List ℕ). reply r (with_heads n x)) (sym (commit-none n.heads p k 0 l m refl))

  -- Bytes that are no image: 26, and nothing changes
  pub restore-none : (b : List ℕ) → is_image b ≡ false → restore_of h p k b ≡ reply (Err Image) h
  unfolding restore_of prepare_image_of
  restore-none b e = rw (lt-leb parties p l, lt-leb places k m, e) (done_first (Err Image) h)

  module _ (b : List ℕ) (o : Outline) (i : IsImage b o) where
    image-prepared : prepare_image_of h p k b ≡ image_prepared h p k o o.letters
    unfolding prepare_image_of
    image-prepared =
        rw (lt-leb parties p l, lt-leb places k m, image-of b o i) (ap (λ (v : Outline). image_prepared h p k v v.letters) (image-held i))

    -- The image of an empty place: the place's word is 0 afterwards, and nothing else changes
    pub restore-empty : o.letters ≡ [] → restore_of h p k b ≡ reply (Ok Done) (worded h (spot p k) 0)
    unfolding restore_of image_prepared
    restore-empty e =
        ap (committed p k) (image-prepared ∙ ap (image_prepared h p k o) e) ∙ done_first (Ok Done) (worded h (spot p k) 0)

    -- An outline with letters: as the second half of a close after an outline was prepared, with the draft untouched
    pub restore-outline : (a : ℕ) (w : List ℕ) → o.letters ≡ a ∷ w → restore_of h p k b ≡ committed p k (outline_prepared h p k o)
    unfolding restore_of image_prepared
    restore-outline a w e = ap (committed p k) (image-prepared ∙ ap (image_prepared h p k o) e)

    -- If the test refuses it, nothing changes
    pub restore-refused : (a : ℕ) (w : List ℕ) → o.letters ≡ a ∷ w → (f : Refusal) → (judged_of o).verdict ≡ Err f
        → restore_of h p k b ≡ reply (Err f) h
    restore-refused a w e f v =
        restore-outline a w e ∙ ap (committed p k) (sym (outline-refused h p k o (judged_of o) refl f v)) ∙ done_first (Err f) h
