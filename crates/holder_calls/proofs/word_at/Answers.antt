-- By the party, and then by the place.
use Rattle.std.proofs.Common.{inl, inr, refl}
use Rattle.std.proofs.lemmas.Result.{err_from_is_err_and}
use Rattle.holder_calls.proofs.word_at.Goals as goal

pub returns-in_err-p : goal.returns-in_err-p
returns-in_err-p c =
    let q = err_from_is_err_and c.from_residual.result c.from_residual.ensures.1 in
    rw (q.1, q.2) (inl c.in_err-p.ensures)

pub returns-in_err-k : goal.returns-in_err-k
returns-in_err-k c =
    let q = err_from_is_err_and c.from_residual-in_err-k.result c.from_residual-in_err-k.ensures.1 in
    rw (q.1, q.2) (inr (c.in_err-k.ensures.0, c.in_ok-p.ensures.1, c.in_err-k.ensures.1))

pub returns : goal.returns
returns c =
    (rw (c.in_ok-p.ensures.0, c.in_ok-k.ensures.0) refl, c.in_ok-p.ensures.1, c.in_ok-k.ensures.1)
