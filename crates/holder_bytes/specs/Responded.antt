-- One call as bytes on a holder's arrays: every number that it leaves, its reply, and whether it was a call (contract 10.3 and 10.4).
use Rattle.std.specs.Prelude.{ℕ, ◌≡◌, Bool, true, false, List}
use Rattle.chart.specs.Fields.{numbers_of}
use Rattle.calls.specs.Calls.{by}
use Rattle.calls.specs.Replies.{reply_fields}
use Rattle.calls.specs.declared.Action.TheVariants.{Close, Ask}
use Rattle.calls.specs.declared.Question.TheVariants.{Reading as OfReading}
use Rattle.calls.specs.declared.Reading.{Reading}
use Rattle.wire.specs.Wire.{Decoded}
use Rattle.std.specs.Prelude.{Some, None}
use Rattle.holder_memory.specs.Layout.{Holder}
use Rattle.holder_answers.specs.Arrays.{answer_of}
use Rattle.holder_written.specs.Written.{CloseTold, ReadingTold}

-- Whether there is a call; the holder and the seven numbers of the reply after it. Bytes that are not a call change nothing
unfoldable pub is_call : Decoded → Bool
is_call None = false
is_call (Some c) = true

unfoldable pub next_holder : Holder → Decoded → Holder
next_holder h None = h
next_holder h (Some c) = (answer_of h c).holder

unfoldable pub reply_by : Holder → Decoded → List ℕ → List ℕ
reply_by h None reply = reply
reply_by h (Some c) reply = numbers_of (reply_fields (answer_of h c).reply)

-- From arrays h to arrays n, and from one content of the reply to the next
pub record Responded (h n : Holder) (d : Decoded) (reply reply' : List ℕ) (r : Bool) : Type 0 where
  pub done : r ≡ is_call d
  pub holder : n ≡ next_holder h d
  pub replied : reply' ≡ reply_by h d reply

-- What the reply says: of the draft, if the bytes are a close, and of the reading, if they are one
pub record BytesTold (h : Holder) (d : Decoded) (numbers : List ℕ) : Type 0 where
  pub close : (p k : ℕ) → d ≡ Some (by p (Close k)) → CloseTold h p numbers
  pub reading : (p k : ℕ) (x : Reading) → d ≡ Some (by p (Ask k (OfReading x))) → ReadingTold h p k x numbers
