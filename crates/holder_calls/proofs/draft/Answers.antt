-- The tests are those of the definition, in its order.
use mathlib.Core.Logic.{⊎_elim}
use Rattle.std.proofs.lemmas.Result.{err_from_is_err_and}
use Rattle.holder_answers.proofs.Cases.{draft-unknown, draft-closed, draft_open}
use Rattle.holder_calls.proofs.draft.Goals as goal

pub returns-in_err-whose : goal.returns-in_err-whose
returns-in_err-whose c =
    let q = err_from_is_err_and c.from_residual.result c.from_residual.ensures.1 in
    λ l r n.
    rw (q.1, q.2)
    (⊎_elim (λ x. rw x.0 (draft-unknown _ _ x.1)) (λ x. rw x.0 (draft-closed _ _ x.1 x.2)) c.in_err-whose.ensures)

pub returns : goal.returns
returns c = λ l r n. rw c.in_ok-whose.ensures.0 (draft_open _ _ c.in_ok-whose.ensures.1 c.in_ok-whose.ensures.2)
