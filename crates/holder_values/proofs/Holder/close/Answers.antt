-- The cell is the verdict's.
use Rattle.holder_answers.proofs.CloseLaws.{named_by}
use Rattle.holder_values.proofs.Holder.close.Goals as goal

pub returns-clause-named : goal.returns-clause-named
returns-clause-named c = named_by _ _ _ _ _ c.close-reply.ensures
