-- The reply's fields are written.
use Rattle.holder_written.proofs.Written.{done-by}
use Rattle.holder_written.proofs.begin.Goals as goal

pub returns : goal.returns
returns c = λ l r n. done-by _ _ _ _ (c.begin.ensures l r n) _ c.put_word.ensures
