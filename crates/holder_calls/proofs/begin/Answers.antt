-- The tests are those of the definition, in its order.
use mathlib.Core.Path.{sym, ◌∙◌}
use Rattle.holder_answers.proofs.Cases.{no-party, begin-open, begin-start, begin-done}
use Rattle.std.proofs.lemmas.Result.{err_from_is_err_and}
use Rattle.holder_calls.proofs.begin.Goals as goal

pub returns-in_err-p : goal.returns-in_err-p
returns-in_err-p c =
    let q = err_from_is_err_and c.from_residual.result c.from_residual.ensures.1 in
    λ l r n. rw (q.1, q.2) (rw c.in_err-p.ensures.0 (no-party _ _ c.in_err-p.ensures.1))

pub returns-then-heads-at-ne0 : goal.returns-then-heads-at-ne0
returns-then-heads-at-ne0 c = λ l r n.
    begin-open _ _ c.in_ok-p.ensures.1 _ (rw c.in_ok-p.ensures.0 at c.if-heads-at-ne0.true)

pub returns-then-bad_start : goal.returns-then-bad_start
returns-then-bad_start c = λ l r n.
    begin-start _ _ c.in_ok-p.ensures.1 _ (rw c.in_ok-p.ensures.0 at c.if-heads-at-ne0.false)
    (sym c.bad_start.ensures ∙ c.if-bad_start.true)

pub returns : goal.returns
returns c = λ l r n.
    begin-done _ _ c.in_ok-p.ensures.1 _ (rw c.in_ok-p.ensures.0 at c.if-heads-at-ne0.false)
    (sym c.bad_start.ensures ∙ c.if-bad_start.false) _ (rw c.in_ok-p.ensures.0 at c.put_start.ensures)
