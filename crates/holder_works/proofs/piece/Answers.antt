-- Each return is a case of the definition: 12, or the command from the edges of the slot (WorkCases).
use Rattle.holder_works.proofs.WorkCases.{piece-none, piece-here}
use Rattle.holder_works.proofs.piece.Goals as goal

pub returns-then-slot-ge-SLOTS : goal.returns-then-slot-ge-SLOTS
returns-then-slot-ge-SLOTS c = λ r. piece-none r _ _ _ _ c.if-slot-ge-SLOTS.true

pub returns : goal.returns
returns c =
    λ r. rw c.drawn_at.ensures
    (piece-here r _ _ _ c.if-slot-ge-SLOTS.false _ (c.anchor_at-anchor.ensures r _) _ (c.edges_at-list.ensures r) _)
