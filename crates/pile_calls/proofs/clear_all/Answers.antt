-- Zeros.
use mathlib.Core.Path.{ap}
use Rattle.pile_calls.specs.Arrays.{arrays, fresh_pile}
use Rattle.pile_calls.proofs.clear_all.Goals as goal

pub returns : goal.returns
unfolding fresh_pile
returns c = ap (arrays _) c.unpass.ensures.0
