-- The numbers are the first ones of the window of the slot, as many as the third number of its head says.
use native.Mathlib.Nat.{add-sub_cancel_left}
use mathlib.Core.Path.{refl}
use Rattle.holder_works.proofs.WorkCases.{edges-found}
use Rattle.holder_works.proofs.edges_at.Goals as goal

pub returns : goal.returns
returns c =
    λ r. rw add-sub_cancel_left (edges-found r _ _ _ _ _ refl c.number_count-n.ensures)
