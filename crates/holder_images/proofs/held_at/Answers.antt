-- By the party, the place and what is found there.
use Rattle.std.proofs.Common.{arith}
use Rattle.std.proofs.lemmas.Result.{err_from_is_err_and}
use Rattle.holder_images.proofs.CheckLaws.{held-no-party, held-no-place, held-found}
use Rattle.holder_images.proofs.held_at.Goals as goal

pub returns-in_err-p : goal.returns-in_err-p
returns-in_err-p c =
    let q = err_from_is_err_and c.from_residual.result c.from_residual.ensures.1 in
    λ own. rw (q.1, q.2, c.in_err-p.ensures.0) (held-no-party _ _ _ _ c.in_err-p.ensures.1)

pub returns-in_err-k : goal.returns-in_err-k
returns-in_err-k c =
    let q = err_from_is_err_and c.from_residual-in_err-k.result c.from_residual-in_err-k.ensures.1 in
    λ own. rw (q.1, q.2, c.in_err-k.ensures.0) (held-no-place _ _ c.in_ok-p.ensures.1 _ _ c.in_err-k.ensures.1)

pub find-requires : goal.find-requires
find-requires c = (omega (arith, c.in_ok-p.ensures.0, c.in_ok-p.ensures.1), omega (arith, c.in_ok-k.ensures.0, c.in_ok-k.ensures.1))

pub returns : goal.returns
returns c = λ own.
    held-found _ _ c.in_ok-p.ensures.1 _ _ c.in_ok-k.ensures.1 _ (rw (c.in_ok-p.ensures.0, c.in_ok-k.ensures.0) at (c.find.ensures own))
