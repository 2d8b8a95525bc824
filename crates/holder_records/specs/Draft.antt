-- The draft of a party, and what begin, add and drop do to it (contract 7.3 to 7.5).
use Rattle.std.specs.Prelude.{ℕ, ◌+◌, min, Bool, true, false, cond, List, take, set, leb, ltb, Ok, Err}
use Rattle.chart.specs.Limits.{longest}
use Rattle.chart.specs.Outline.{Outline}
use Rattle.chart.specs.declared.Point.{Point}
use Rattle.chart.specs.declared.Refusal.TheVariants.{Start, Letter, NoDraft, DraftOpen, DraftFull}
use Rattle.lattice.specs.Refusals.{bad_start}
use Rattle.calls.specs.Replies.{Reply}
use Rattle.calls.specs.declared.Answer.TheVariants.{Done}

-- Whether a draft is begun, its start, the space for its letters, and their count
pub record Draft : Type 0 where
  pub begun : Bool
  pub start : Point
  pub letters : List ℕ
  pub letter_count : ℕ

-- A reply, and the next draft
pub record Drafted : Type 0 where
  pub reply : Reply
  pub draft : Draft

-- The outline of a draft. A count above the space is read as the space
unfoldable pub outline_of : Draft → Outline
outline_of d = record { start = d.start; letters = take (min d.letter_count longest) d.letters }

-- The draft after it ends; after it is opened at a start, without letters; after one more letter
unfoldable pub end_of : Draft → Draft
end_of d = record { begun = false; start = d.start; letters = d.letters; letter_count = d.letter_count }

unfoldable pub begun_at : Draft → Point → Draft
begun_at d s = record { begun = true; start = s; letters = d.letters; letter_count = 0 }

unfoldable pub lengthened : Draft → ℕ → Draft
lengthened d a = record { begun = d.begun; start = d.start; letters = set d.letters d.letter_count a; letter_count = d.letter_count + 1 }

-- ---- the calls

unfoldable pub begin_of : Draft → Point → Drafted
begin_of d s =
    cond d.begun (record { reply = Err DraftOpen; draft = d })
    (cond (bad_start s) (record { reply = Err Start; draft = d })
    (record { reply = Ok Done; draft = begun_at d s }))

unfoldable pub add_of : Draft → ℕ → Drafted
add_of d a =
    cond d.begun
    (cond (leb longest d.letter_count) (record { reply = Err DraftFull; draft = d })
    (cond (ltb 3 a) (record { reply = Err (Letter d.letter_count); draft = d })
    (record { reply = Ok Done; draft = lengthened d a })))
    (record { reply = Err NoDraft; draft = d })

unfoldable pub drop_of : Draft → Drafted
drop_of d = cond d.begun (record { reply = Ok Done; draft = end_of d }) (record { reply = Err NoDraft; draft = d })
