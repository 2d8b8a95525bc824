-- Each return is a case of the definition: 12, or the location among the edges of the slot (WorkCases).
use Rattle.holder_records.proofs.Listed.{edges-short}
use Rattle.holder_works.proofs.WorkCases.{reading-none, reading-here}
use mathlib.Core.Logic.{inl}
use mathlib.Core.List.{[]}
use Rattle.holder_works.proofs.reading.Goals as goal

pub returns-then-slot-ge-SLOTS : goal.returns-then-slot-ge-SLOTS
returns-then-slot-ge-SLOTS c = λ r. reading-none r _ _ _ _ c.if-slot-ge-SLOTS.true

pub locate-requires : goal.locate-requires
locate-requires c = inl (rw (c.edges_at-list.ensures []) (edges-short _))

pub returns : goal.returns
returns c =
    λ r. rw (c.reply.ensures, c.locate.ensures)
    (reading-here r _ _ _ c.if-slot-ge-SLOTS.false _ (c.anchor_at-anchor.ensures r _) _ (c.edges_at-list.ensures r) _)
