-- The columns come from the two bytes of the row.
use mathlib.Core.Path.{sym, ◌∙◌}
use borrow.Author.Tests.{lt-ltb, le-ltb}
use Rattle.spans.specs.Spans.{span_from}
use Rattle.span_list.proofs.SlotLaws.{span-ends}
use Rattle.span_list.proofs.span_at.Goals as goal

pub returns-then-ends : goal.returns-then-ends
unfolding span_from
returns-then-ends c = sym (span-ends _ _ _ c.requires.1 _ c.ends_at-ends.ensures ∙ rw (lt-ltb _ _ c.if-ends.true))

pub returns-else-ends : goal.returns-else-ends
unfolding span_from
returns-else-ends c = sym (span-ends _ _ _ c.requires.1 _ c.ends_at-ends.ensures ∙ rw (le-ltb _ _ c.if-ends.false))
