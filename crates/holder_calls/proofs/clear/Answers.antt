-- By where the word of the place stands.
use mathlib.Core.Logic.{⊎_elim}
use Rattle.holder_answers.proofs.Cases.{no-party, clear-no-place, clear-done}
use Rattle.std.proofs.lemmas.Result.{err_from_is_err_and}
use Rattle.holder_calls.proofs.clear.Goals as goal

pub returns-in_err-at : goal.returns-in_err-at
returns-in_err-at c =
    let q = err_from_is_err_and c.from_residual.result c.from_residual.ensures.1 in
    λ l r n. rw (q.1, q.2) (⊎_elim (λ x. rw x.0 (no-party _ _ x.1)) (λ x. rw x.0 (clear-no-place _ _ x.1 _ x.2)) c.in_err-at.ensures)

pub returns : goal.returns
returns c = λ l r n. rw c.in_ok-at.ensures.0 (clear-done _ _ c.in_ok-at.ensures.1 _ c.in_ok-at.ensures.2)
