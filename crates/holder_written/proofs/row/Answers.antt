-- The reply's fields are written.
use Rattle.holder_written.proofs.Written.{done-by}
use Rattle.holder_written.proofs.row.Goals as goal

pub returns : goal.returns
returns c = λ l n. done-by _ _ _ _ (c.row.ensures l n) _ c.put_columns.ensures
