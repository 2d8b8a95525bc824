-- By the party, and then by the flag of its draft.
use Rattle.std.proofs.Common.{inl, inr, refl}
use Rattle.std.proofs.lemmas.Result.{err_from_is_err_and}
use Rattle.holder_calls.proofs.drafter.Goals as goal

pub returns-in_err-p : goal.returns-in_err-p
returns-in_err-p c =
    let q = err_from_is_err_and c.from_residual.result c.from_residual.ensures.1 in
    rw (q.1, q.2) (inl c.in_err-p.ensures)

pub returns-then-heads-p-eq0 : goal.returns-then-heads-p-eq0
returns-then-heads-p-eq0 c = inr (refl, c.in_ok-p.ensures.1, rw c.in_ok-p.ensures.0 at c.if-heads-p-eq0.true)

pub returns : goal.returns
returns c = (c.in_ok-p.ensures.0, c.in_ok-p.ensures.1, rw c.in_ok-p.ensures.0 at c.if-heads-p-eq0.false)
