-- Zeros.
use mathlib.Core.Path.{refl}
use Rattle.holder_answers.specs.Run.{fresh_holder}
use Rattle.holder_calls.proofs.clear_all.Goals as goal

pub returns : goal.returns
unfolding fresh_holder
returns c = refl
