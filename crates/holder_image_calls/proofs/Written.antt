-- A save or the first half of a restore in place, and then its reply written, is the call as C makes it.
use Prim.Native.Nat.{ℕ}
use mathlib.Core.Path.{◌≡◌, ap, ◌∙◌}
use mathlib.Core.List.{List}
use Rattle.chart.specs.Fields.{numbers_of}
use Rattle.calls.specs.Replies.{Reply, reply_fields}
use Rattle.holder_memory.specs.Layout.{Holder}
use Rattle.holder_answers.specs.Arrays.{Preparation, preparation}
use Rattle.holder_images.specs.Arrays.{Saved, saved, save_of, prepare_image_of}
use Rattle.holder_image_calls.specs.Written.{IsSaved, ImagePrepared}

pub saved-by : (h : Holder) (p k : ℕ) (before after : List ℕ) (r : Reply) → saved r after ≡ save_of h p k before → (l : List ℕ)
    → l ≡ numbers_of (reply_fields r) → IsSaved h p k before after l
saved-by h p k before after r e l q =
    record { buffer = ap (λ (x : Saved). x.buffer) e; replied = q ∙ ap (λ (x : Saved). numbers_of (reply_fields x.reply)) e }

pub prepared-by : (h n : Holder) (p k : ℕ) (b : List ℕ) (r : Reply) (w : ℕ) → preparation r w n ≡ prepare_image_of h p k b → (l : List ℕ)
    → l ≡ numbers_of (reply_fields r) → ImagePrepared h n p k b w l
prepared-by h n p k b r w e l q =
    record {
      holder = ap (λ (x : Preparation). x.holder) e;
      word = ap (λ (x : Preparation). x.word) e;
      replied = q ∙ ap (λ (x : Preparation). numbers_of (reply_fields x.reply)) e;
    }
