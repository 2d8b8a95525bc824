-- The reply's fields are written.
use Rattle.holder_written.proofs.Written.{done-by}
use Rattle.holder_written.proofs.add.Goals as goal

pub returns : goal.returns
returns c = λ r n. done-by _ _ _ _ (c.add.ensures r n) _ c.put_word.ensures
