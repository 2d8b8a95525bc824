-- No piece passed has a back-step, and the search stops at the first that has one.
use Rattle.convexity.specs.Pieces.{rounds}
use Rattle.back_steps.proofs.BackStepLaws.{Searched}
use Rattle.back_steps.proofs.first.Given as goal

abbrev pub invariant-loop-k : goal.invariant-loop-k
invariant-loop-k l = Searched (rounds l.letters) l.at l.k
