-- The slot, then the anchors and the edges, as the definition has them (WorkCases).
use Rattle.holder_records.specs.Work.{listed}
use mathlib.Core.Path.{◌∙◌}
use Rattle.holder_works.proofs.WorkCases.{has-none, has_here}
use Rattle.holder_works.proofs.has.Goals as goal

pub returns-then-slot-ge-SLOTS : goal.returns-then-slot-ge-SLOTS
returns-then-slot-ge-SLOTS c = λ r. has-none r _ _ _ _ _ c.if-slot-ge-SLOTS.true

pub returns : goal.returns
unfolding listed
returns c =
    λ r. has_here r _ _ _ c.if-slot-ge-SLOTS.false _ (c.anchor_at-own.ensures r _) _ (c.edges_at-mine.ensures r) _ _ _
    (c.same_edges.ensures ∙ rw c.number_count-n.ensures)
