-- A check in steps: one section a step, from a position that is kept in the state.
use Rattle.std.specs.Prelude.{ℕ, zero, suc, ◌+◌, ◌-◌, Bool, cond, List, ltb, Option, None, Some, Ok, Err}
use Rattle.chart.specs.Limits.{side}
use Rattle.chart.specs.declared.Refusal.TheVariants.{Section}
use Rattle.chart.specs.declared.SectionKind.TheVariants.{Column, Row}
use Rattle.spans.specs.declared.Spans.{Spans}
use Rattle.pile_sections.specs.Sections.{column_clear, row_clear}
use Rattle.pile_replies.specs.Replies.{PileReply}
use Rattle.pile_replies.specs.declared.PileAnswer.TheVariants.{Done}
use Rattle.pile_calls.specs.declared.Pile.{Pile}
use Rattle.pile_calls.specs.declared.Stepped.{Stepped}
use Rattle.pile_calls.specs.Arrays.{layers_in, word, passed, position, with_state, passing}

abbrev pub stepped : Option PileReply → Pile → Stepped
stepped r p = record { progress = r; pile = p }

-- ---- the sections in their order: 255 columns, then 255 rows

abbrev pub sections : ℕ
sections = 510

unfoldable pub clear_at : List Spans → ℕ → Bool
clear_at ls k = cond (ltb k side) (column_clear ls k) (row_clear ls (k - side))

unfoldable pub dent_at : ℕ → PileReply
dent_at k = cond (ltb k side) (Err (Section Column k)) (Err (Section Row (k - side)))

-- ---- a step

-- The section that it tests. A position that is none begins anew
unfoldable pub tested_at : ℕ → ℕ
tested_at k = cond (ltb k sections) k 0

-- A dented section ends the check: the next begins anew, and a word that says that the pile has passed goes
unfoldable pub ending : Pile → Pile
ending p = with_state p (cond (passed p) 0 (word p)) 0

unfoldable pub step_at : Pile → ℕ → Stepped
step_at p k =
    cond (clear_at (layers_in p) k)
    (cond (ltb k 509) (stepped None (with_state p (word p) (k + 1))) (stepped (Some (Ok Done)) (passing p)))
    (stepped (Some (dent_at k)) (ending p))

unfoldable pub step_of : Pile → Stepped
step_of p = step_at p (tested_at (position p))

-- ---- steps until one replies, at most n

unfoldable pub onward : (Pile → Stepped) → Option PileReply → Pile → Stepped
onward next None p = next p
onward next (Some r) p = stepped (Some r) p

unfoldable pub steps_of : ℕ → Pile → Stepped
steps_of zero p = stepped None p
steps_of (suc n) p = onward (steps_of n) (step_of p).progress (step_of p).pile
