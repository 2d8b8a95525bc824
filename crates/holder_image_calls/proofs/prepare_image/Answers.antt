-- The reply's fields are written.
use Rattle.holder_image_calls.proofs.Written.{prepared-by}
use Rattle.holder_image_calls.proofs.prepare_image.Goals as goal

pub returns : goal.returns
returns c = λ l. prepared-by _ _ _ _ _ _ _ (c.prepare_image-prepared.ensures l) _ c.put.ensures
