-- The reply's fields are written.
use Rattle.holder_written.proofs.Written.{done-by}
use Rattle.holder_written.proofs.query.Goals as goal

pub returns : goal.returns
returns c = λ l n. done-by _ _ _ _ (c.query.ensures l n) _ c.put_word.ensures
