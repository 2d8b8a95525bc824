-- Prepare and then commit.
use Rattle.holder_answers.proofs.Cases.{close-made}
use Rattle.holder_closes.proofs.close.Goals as goal

pub returns : goal.returns
returns c = close-made _ _ _ _ _ _ c.prepare-prepared.ensures _ c.commit.ensures
