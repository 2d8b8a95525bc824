-- The first two numbers of the slot's head.
use Rattle.holder_works.proofs.WorkCases.{anchor-is}
use Rattle.holder_works.proofs.anchor_at.Goals as goal

pub returns : goal.returns
returns c = λ r n. anchor-is r n _ _
