-- A call as C makes it: from arrays to arrays, with the reply in seven numbers (contract 10.1 and 10.4).
use Rattle.std.specs.Prelude.{ℕ, ◌≡◌, List, Ok, Err}
use Rattle.chart.specs.Fields.{numbers_of, fields_of, accepted, no_word, refusal_fields}
use Rattle.chart.specs.declared.Fields.{Fields}
use Rattle.verdict.specs.Named.{CellNamed}
use Rattle.calls.specs.Replies.{reply_fields}
use Rattle.calls.specs.declared.Call.{Call}
use Rattle.calls.specs.declared.Reading.{Reading}
use Rattle.readings.specs.Named.{ReadingNamed}
use Rattle.holder_records.specs.Work.{work_edges}
use Rattle.holder_memory.specs.Layout.{Holder}
use Rattle.holder_answers.specs.Arrays.{Drafting, draft_in, work_in, answer_of, prepare_of}

-- From arrays h to arrays n, with this reply of seven numbers
pub record Done (h n : Holder) (c : Call) (numbers : List ℕ) : Type 0 where
  pub holder : n ≡ (answer_of h c).holder
  pub replied : numbers ≡ numbers_of (reply_fields (answer_of h c).reply)

-- The first half of a close, with the word for the second
pub record Prepared (h n : Holder) (p k w : ℕ) (numbers : List ℕ) : Type 0 where
  pub holder : n ≡ (prepare_of h p k).holder
  pub word : w ≡ (prepare_of h p k).word
  pub replied : numbers ≡ numbers_of (reply_fields (prepare_of h p k).reply)

-- What the reply of a close says: of the outline drafted in h
abbrev pub CloseTold : Holder → ℕ → List ℕ → Type 0
CloseTold h p numbers = CellNamed (draft_in h p) (fields_of numbers)

-- What the reply to a reading says: of the anchor and the edges that place k of party p names in h
abbrev pub ReadingTold : Holder → ℕ → ℕ → Reading → List ℕ → Type 0
ReadingTold h p k x numbers = ReadingNamed (work_in h p k).anchor (work_edges (work_in h p k)) x (fields_of numbers)

-- What is drafted: 19, 13, or the count in the third field and the start in the last two
unfoldable pub draft_fields : Drafting → Fields
draft_fields (Err f) = refusal_fields f
draft_fields (Ok d) = accepted no_word d.count d.start
