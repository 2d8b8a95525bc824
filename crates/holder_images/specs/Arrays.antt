-- What a check, a save and a restore reply and leave, for every content of the arrays (contract 13.4 to 13.6).
use Rattle.std.specs.Prelude.{ℕ, cond, List, [], ◌∷◌, ◌++◌, length, drop, ltb, Ok, Err}
use Rattle.chart.specs.Outline.{Outline}
use Rattle.chart.specs.declared.Refusal.TheVariants.{LetterBuffer, Party, Place, Image, Damaged}
use Rattle.calls.specs.Calls.{bad_party, bad_place}
use Rattle.calls.specs.Replies.{Reply}
use Rattle.calls.specs.declared.Answer.TheVariants.{Done}
use Rattle.images.specs.Image.{image_bytes, image_of, held_in, is_image}
use Rattle.holder_memory.specs.Layout.{Holder, spot}
use Rattle.holder_answers.specs.Arrays.{Answered, Preparation, preparation, worded, committed, outline_prepared}
use Rattle.holder_images.specs.Whole.{whole_at, border_in}

-- ---- check: 19, 20, 27, or done

unfoldable pub check_of : Holder → ℕ → ℕ → Reply
check_of h p k = cond (bad_party p) (Err Party) (cond (bad_place k) (Err Place) (cond (whole_at h p k) (Ok Done) (Err Damaged)))

-- ---- save: 19, 20, 27, 18, or the image stands first in the buffer

-- A reply, and the buffer afterwards
pub record Saved : Type 0 where
  pub reply : Reply
  pub buffer : List ℕ

abbrev pub saved : Reply → List ℕ → Saved
saved r b = record { reply = r; buffer = b }

unfoldable pub save_of : Holder → ℕ → ℕ → List ℕ → Saved
save_of h p k b =
    cond (bad_party p) (saved (Err Party) b)
    (cond (bad_place k) (saved (Err Place) b)
    (cond (whole_at h p k)
    (cond (ltb (length b) image_bytes) (saved (Err LetterBuffer) b) (saved (Ok Done) (image_of (border_in h p k) ++ drop image_bytes b)))
    (saved (Err Damaged) b)))

-- ---- restore: 19, 20, 26, and then as a close of the image's outline, or a clear

-- The first half with an outline of these letters. Without letters it clears the place
unfoldable pub image_prepared : Holder → ℕ → ℕ → Outline → List ℕ → Preparation
image_prepared h p k o [] = preparation (Ok Done) 0 (worded h (spot p k) 0)
image_prepared h p k o (a ∷ w) = outline_prepared h p k o

-- The first half. It leaves the drafts. Its word is 0 if it refuses or clears
unfoldable pub prepare_image_of : Holder → ℕ → ℕ → List ℕ → Preparation
prepare_image_of h p k b =
    cond (bad_party p) (preparation (Err Party) 0 h)
    (cond (bad_place k) (preparation (Err Place) 0 h)
    (cond (is_image b) (image_prepared h p k (held_in b) (held_in b).letters) (preparation (Err Image) 0 h)))

-- Both halves
unfoldable pub restore_of : Holder → ℕ → ℕ → List ℕ → Answered
restore_of h p k b = committed p k (prepare_image_of h p k b)
