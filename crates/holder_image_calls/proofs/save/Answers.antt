-- The reply's fields are written.
use Rattle.holder_image_calls.proofs.Written.{saved-by}
use Rattle.holder_image_calls.proofs.save.Goals as goal

pub returns : goal.returns
returns c = λ l. saved-by _ _ _ _ _ _ (c.save.ensures l) _ c.put.ensures
