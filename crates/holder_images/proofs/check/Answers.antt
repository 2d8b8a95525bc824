-- By what is held at the place.
use Rattle.std.proofs.lemmas.Result.{err_from_is_err_and}
use Rattle.holder_images.proofs.CheckLaws.{check-whole, check-refused}
use Rattle.holder_images.proofs.check.Goals as goal

pub returns-in_err-held_at : goal.returns-in_err-held_at
returns-in_err-held_at c =
    let q = err_from_is_err_and c.from_residual.result c.from_residual.ensures.1 in
    λ own. rw (q.1, q.2) (check-refused _ _ _ _ _ (c.in_err-held_at.ensures own))

pub returns : goal.returns
returns c = λ own. check-whole _ _ _ _ _ (c.in_ok-held_at.ensures own)
