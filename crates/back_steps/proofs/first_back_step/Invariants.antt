-- No letter passed is a back-step, and the search stops at the first that is.
use Rattle.convexity.specs.Pieces.{rounds}
use Rattle.back_steps.specs.parts.BackSteps.{part}
use Rattle.back_steps.proofs.BackStepLaws.{Passed}
use Rattle.back_steps.proofs.first_back_step.Given as goal

abbrev pub invariant-loop-i : goal.invariant-loop-i
invariant-loop-i l = Passed (part l.from l.to (rounds l.letters)) l.k l.i
