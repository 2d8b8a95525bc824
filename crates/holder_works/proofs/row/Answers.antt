-- Each return is a case of the definition: 12, 11, or the columns (WorkCases).
use Rattle.spans.specs.Spans.{span_reply}
use mathlib.Core.Path.{ap, ◌∙◌}
use Rattle.holder_works.proofs.WorkCases.{row-none, row-bad, row-span}
use Rattle.holder_works.proofs.row.Goals as goal

pub returns-then-slot-ge-SLOTS : goal.returns-then-slot-ge-SLOTS
returns-then-slot-ge-SLOTS c = λ n h. row-none _ n h _ _ c.if-slot-ge-SLOTS.true

pub returns-then-row-ge-SIDE : goal.returns-then-row-ge-SIDE
returns-then-row-ge-SIDE c = λ n h. row-bad _ n h _ _ c.if-slot-ge-SLOTS.false c.if-row-ge-SIDE.true

pub returns : goal.returns
returns c = λ n h. c.reply.ensures ∙ ap span_reply c.span_at.ensures
    ∙ row-span _ n h _ _ c.if-slot-ge-SLOTS.false c.if-row-ge-SIDE.false
