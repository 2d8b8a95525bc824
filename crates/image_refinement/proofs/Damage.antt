-- Damaged images are refused by 26, and a refused restore leaves every number.
use Rattle.std.specs.Prelude.{Result, Ok, Err}
use Prim.Native.Nat.{ℕ, ◌%◌, ◌<◌}
use mathlib.Core.Path.{◌≡◌, refl}
use mathlib.Core.Bool.{Bool, true, false, cond}
use mathlib.Core.List.{List, [], ◌∷◌}
use lib.ListN.{length}
use Rattle.base.proofs.BelowLaws.{not-held}
use Rattle.chart.specs.Outline.{Outline}
use Rattle.chart.specs.declared.Point.{Point}
use Rattle.chart.specs.declared.Refusal.TheVariants.{Image}
use Rattle.chart.specs.declared.Refusal.{Refusal}
use Rattle.chart.specs.declared.Taken.{Taken}
use Rattle.judge.specs.Judged.{judged_of}
use Rattle.calls.specs.Calls.{parties, places, bad_party, bad_place}
use Rattle.calls.specs.Replies.{reply_fields}
use Rattle.calls.specs.declared.Answer.TheVariants.{Taken as WasTaken, Same}
use Rattle.checksum.specs.Checksum.{message}
use Rattle.checksum.specs.Damage.{Bytes, differences, total, Within, Far}
use Rattle.images.specs.Image.{image_bytes, IsImage, held_in, is_image}
use Rattle.images.specs.Damage.{Damaged}
use Rattle.images.proofs.Images.{image-iff, image-sized}
use Rattle.images.proofs.Damage.{damage-refused, few-near, odd-near, burst-near}
use Rattle.holder_records.specs.Work.{listed, has_edges}
use Rattle.holder_memory.specs.Layout.{Holder}
use Rattle.holder_answers.specs.Arrays.{Answered, reply, Preparation, work_in, outline_prepared_by, committed}
use Rattle.holder_images.specs.Arrays.{image_prepared, prepare_image_of, restore_of}
use Rattle.holder_images.proofs.Meaning.{restore-none}
use Rattle.holder_refinement.proofs.Turns.{commit-zero}

-- ---- a refused restore

abbrev Leaves : Holder → Answered → Type 0
Leaves h x = ((reply_fields x.reply).number ≡ 0 → ⊥) → x.holder ≡ h

module _ (h : Holder) (p k : ℕ) where
  either : (t : Bool) (x y : Preparation) → Leaves h (committed p k x) → Leaves h (committed p k y) → Leaves h (committed p k (cond t x y))
  either true x y f g = f
  either false x y f g = g

  accepted : (t : Bool) (n : ℕ) (a : Point) → (reply_fields (cond t (Ok (Same n a)) (Ok (WasTaken n a)))).number ≡ 0
  unfolding reply_fields
  accepted true n a = refl
  accepted false n a = refl

  by-verdict : (o : Outline) (v : Result Taken Refusal) → Leaves h (committed p k (outline_prepared_by h p k o (judged_of o) v))
  unfolding outline_prepared_by
  by-verdict o (Err f) r = rw (commit-zero h.heads p k) refl
  by-verdict o (Ok t) r = absurd (r (accepted (has_edges (work_in h p k) t.anchor (listed (judged_of o).numbers t.edges)) t.edges t.anchor))

  by-letters : (o : Outline) (l : List ℕ) → Leaves h (committed p k (image_prepared h p k o l))
  unfolding image_prepared reply_fields
  by-letters o [] = λ r. absurd (r refl)
  by-letters o (a ∷ l) = by-verdict o (judged_of o).verdict

  -- For every content: a refused restore leaves every number (contract 13.6)
  pub refused-restore : (bytes : List ℕ) → ((reply_fields (restore_of h p k bytes).reply).number ≡ 0 → ⊥) → (restore_of h p k bytes).holder ≡ h
  unfolding restore_of prepare_image_of
  refused-restore bytes =
      either (bad_party p) _ _ (λ r. rw (commit-zero h.heads p k) refl)
      (either (bad_place k) _ _ (λ r. rw (commit-zero h.heads p k) refl)
      (either (is_image bytes) _ _ (by-letters (held_in bytes) (held_in bytes).letters) (λ r. rw (commit-zero h.heads p k) refl)))

-- ---- damage

module _ (h : Holder) (p k : ℕ) (there : p < parties) (inside : k < places) (d : List ℕ) where
  -- Bytes that are not an image
  abbrev Is26 : Type 0
  Is26 = restore_of h p k d ≡ reply (Err Image) h

  -- Any other length
  pub length-26 : (length d ≡ image_bytes → ⊥) → Is26
  length-26 e = restore-none h p there k inside d (not-held (is_image d) (λ i. e (image-sized ((image-iff d).0 i))))

  module _ (b : List ℕ) (o : Outline) (image : IsImage b o) (whole : Bytes b) (bytes : Bytes d) (differs : b ≡ d → ⊥) where
    near : (Far (differences (message b) (message d)) → ⊥) → Is26
    near n =
        let x : Damaged b d = record { outline = o; image = image; whole = whole; bytes = bytes; differs = differs; near = n } in
        restore-none h p there k inside d (not-held (is_image d) (λ i. damage-refused b d x (held_in d) ((image-iff d).0 i)))

    -- One, two or three bits; an odd number; any number within 32 consecutive places
    pub few-26 : total (differences (message b) (message d)) < 4 → Is26
    few-26 l = near (few-near b d l)

    pub odd-26 : total (differences (message b) (message d)) % 2 ≡ 1 → Is26
    odd-26 e = near (odd-near b d e)

    pub burst-26 : (first : ℕ) → Within (differences (message b) (message d)) first → Is26
    burst-26 first w = near (burst-near b d first w)
