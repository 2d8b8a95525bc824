-- A call on a pile as C makes it: from arrays p to arrays q, with a reply of seven numbers (contract 4 and 12.8). The equations say what
-- every number is afterwards, whatever the arrays held.
use Rattle.std.specs.Prelude.{ℕ, ◌≡◌, ◌↔◌, List, Option, None, Some}
use Rattle.chart.specs.declared.Fields.{Fields}
use Rattle.chart.specs.Fields.{worded, more, numbers_of, fields_of}
use Rattle.pile_replies.specs.Replies.{PileReply}
use Rattle.pile_replies.specs.Replies.{pile_fields}
use Rattle.pile_model.specs.Calls.{PileCall}
use Rattle.pile_calls.specs.declared.Pile.{Pile}
use Rattle.pile_calls.specs.Arrays.{answer_of}
use Rattle.pile_calls.specs.Steps.{steps_of}
use Rattle.pile_images.specs.Saved.{SavesAt}

pub record Done (p q : Pile) (c : PileCall) (numbers : List ℕ) : Type 0 where
  pub pile : q ≡ (answer_of p c).pile
  pub replied : numbers ≡ numbers_of (pile_fields (answer_of p c).reply)

-- A step of a check: "more" while it goes on, else the reply of the whole check
unfoldable pub progress_fields : Option PileReply → Fields
progress_fields None = worded more
progress_fields (Some r) = pile_fields r

-- At most n sections. With n 0 it replies "more", and the arrays are unchanged
pub record StepsDone (p q : Pile) (n : ℕ) (numbers : List ℕ) : Type 0 where
  pub pile : q ≡ (steps_of n p).pile
  pub replied : numbers ≡ numbers_of (progress_fields (steps_of n p).progress)

-- What a check writes: a reply for which Fact holds. Its number is 0 exactly if Clear holds
pub record CheckWritten (Fact : PileReply → Type 0) (Clear : Type 0) (numbers : List ℕ) : Type 0 where
  pub answer : PileReply
  pub fact : Fact answer
  pub written : numbers ≡ numbers_of (pile_fields answer)
  pub zero_iff : ((fields_of numbers).number ≡ 0) ↔ Clear

-- A save: a reply with what it leaves in the buffer
pub record SaveWritten (rows : List ℕ) (l : ℕ) (before after numbers : List ℕ) : Type 0 where
  pub answer : PileReply
  pub saves : SavesAt rows l before after answer
  pub written : numbers ≡ numbers_of (pile_fields answer)
