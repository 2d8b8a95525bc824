-- A save and the first half of a restore as C makes them, with the reply in seven numbers (contract 10.1, 13.5 and 13.6).
use Rattle.std.specs.Prelude.{ℕ, ◌≡◌, List}
use Rattle.chart.specs.Fields.{numbers_of}
use Rattle.calls.specs.Replies.{reply_fields}
use Rattle.holder_memory.specs.Layout.{Holder}
use Rattle.holder_images.specs.Arrays.{save_of, prepare_image_of}

-- From one content of the buffer to the next, with this reply
pub record IsSaved (h : Holder) (p k : ℕ) (before after numbers : List ℕ) : Type 0 where
  pub buffer : after ≡ (save_of h p k before).buffer
  pub replied : numbers ≡ numbers_of (reply_fields (save_of h p k before).reply)

-- From arrays h to arrays n with bytes b, with the word for the second half and with this reply
pub record ImagePrepared (h n : Holder) (p k : ℕ) (b : List ℕ) (w : ℕ) (numbers : List ℕ) : Type 0 where
  pub holder : n ≡ (prepare_image_of h p k b).holder
  pub word : w ≡ (prepare_image_of h p k b).word
  pub replied : numbers ≡ numbers_of (reply_fields (prepare_image_of h p k b).reply)
