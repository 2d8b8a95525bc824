-- Each return is a case of the definition: 12, 11, inside or outside (WorkCases).
use mathlib.Core.Path.{sym, ◌∙◌}
use Rattle.holder_works.proofs.WorkCases.{row-on-chart, query-none, query-bad, query-in, query-out}
use borrow.Author.Rules.{rules}
use Rattle.holder_works.proofs.query.Goals as goal

pub returns-then-slot-ge-SLOTS : goal.returns-then-slot-ge-SLOTS
returns-then-slot-ge-SLOTS c = λ n h. query-none _ n h _ _ c.if-slot-ge-SLOTS.true

pub returns-then-bad_cell : goal.returns-then-bad_cell
returns-then-bad_cell c = λ n h. query-bad _ n h _ _ c.if-slot-ge-SLOTS.false (sym c.bad_cell.ensures ∙ c.if-bad_cell.true)

pub within-requires : goal.within-requires
within-requires c = (search rules, row-on-chart _ (sym c.bad_cell.ensures ∙ c.if-bad_cell.false))

pub returns-then-within : goal.returns-then-within
returns-then-within c =
    λ n h. query-in _ n h _ _ c.if-slot-ge-SLOTS.false (sym c.bad_cell.ensures ∙ c.if-bad_cell.false)
    (sym c.within.ensures ∙ c.if-within.true)

pub returns-else-within : goal.returns-else-within
returns-else-within c =
    λ n h. query-out _ n h _ _ c.if-slot-ge-SLOTS.false (sym c.bad_cell.ensures ∙ c.if-bad_cell.false)
    (sym c.within.ensures ∙ c.if-within.false)
