-- While none was found, no letter passed is a back-step.
use mathlib.Core.Path.{◌≡◌}
use mathlib.Core.Bool.{false}
use Rattle.back_steps.proofs.BackStepLaws.{Passed}
use Rattle.back_steps.proofs.some_back_step.Given as goal

abbrev pub invariant-loop-letter : goal.invariant-loop-letter
invariant-loop-letter l = l.found ≡ false → Passed l.piece l.k l.letter-index
