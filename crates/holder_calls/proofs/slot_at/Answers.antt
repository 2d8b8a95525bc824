-- The tests are those of the definition, in its order.
use Rattle.std.proofs.lemmas.Result.{err_from_is_err_and}
use Rattle.holder_calls.proofs.Questions.{asked-no-party, asked-no-place, asked-slot}
use Rattle.holder_calls.proofs.slot_at.Goals as goal

pub returns-in_err-p : goal.returns-in_err-p
returns-in_err-p c =
    let q = err_from_is_err_and c.from_residual.result c.from_residual.ensures.1 in
    rw (q.1, q.2, c.in_err-p.ensures.0) (asked-no-party _ _ _ c.in_err-p.ensures.1)

pub returns-in_err-k : goal.returns-in_err-k
returns-in_err-k c =
    let q = err_from_is_err_and c.from_residual-in_err-k.result c.from_residual-in_err-k.ensures.1 in
    rw (q.1, q.2, c.in_err-k.ensures.0) (asked-no-place _ _ _ c.in_ok-p.ensures.1 c.in_err-k.ensures.1)

pub returns : goal.returns
returns c =
    asked-slot _ _ _ c.in_ok-p.ensures.1 c.in_ok-k.ensures.1 _ (rw (c.in_ok-p.ensures.0, c.in_ok-k.ensures.0) at c.slot_of.ensures)
