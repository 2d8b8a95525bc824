-- By whether the party drafts.
use mathlib.Core.Logic.{⊎_elim}
use Rattle.holder_answers.proofs.Cases.{no-party, drop-none, drop-done}
use Rattle.std.proofs.lemmas.Result.{err_from_is_err_and}
use Rattle.holder_calls.proofs.drop.Goals as goal

pub returns-in_err-p : goal.returns-in_err-p
returns-in_err-p c =
    let q = err_from_is_err_and c.from_residual.result c.from_residual.ensures.1 in
    λ l r n. rw (q.1, q.2) (⊎_elim (λ x. rw x.0 (no-party _ _ x.1)) (λ x. rw x.0 (drop-none _ _ x.1 x.2)) c.in_err-p.ensures)

pub returns : goal.returns
returns c = λ l r n. rw c.in_ok-p.ensures.0 (drop-done _ _ c.in_ok-p.ensures.1 c.in_ok-p.ensures.2)
