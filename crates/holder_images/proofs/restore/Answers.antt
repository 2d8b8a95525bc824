-- The first half and then commit.
use Rattle.holder_images.proofs.RestoreLaws.{restore-made}
use Rattle.holder_images.proofs.restore.Goals as goal

pub returns : goal.returns
returns c = λ own. restore-made _ _ _ _ _ _ _ (c.prepare_image-prepared.ensures own) _ c.commit.ensures
