-- The tests are those of the definition, in its order.
use Rattle.std.proofs.Common.{arith}
use mathlib.Core.Logic.{⊎_elim}
use Rattle.holder_answers.proofs.Cases.{no-party, add_none, add-full, add-letter, add_done}
use Rattle.std.proofs.lemmas.Result.{err_from_is_err_and}
use Rattle.holder_calls.proofs.add.Goals as goal

pub returns-in_err-p : goal.returns-in_err-p
returns-in_err-p c =
    let q = err_from_is_err_and c.from_residual.result c.from_residual.ensures.1 in
    λ r n. rw (q.1, q.2) (⊎_elim (λ x. rw x.0 (no-party _ _ x.1)) (λ x. rw x.0 (add_none _ _ x.1 _ x.2)) c.in_err-p.ensures)

pub returns-then-n-ge-LONGEST : goal.returns-then-n-ge-LONGEST
returns-then-n-ge-LONGEST c = λ r n.
    add-full _ _ c.in_ok-p.ensures.1 _ c.in_ok-p.ensures.2
    (omega (arith, rw c.in_ok-p.ensures.0 at c.from-n.ensures, c.if-n-ge-LONGEST.true))

pub returns-then-letter-gt3 : goal.returns-then-letter-gt3
returns-then-letter-gt3 c = λ r n.
    rw c.in_ok-p.ensures.0
    (add-letter _ _ c.in_ok-p.ensures.1 _ c.in_ok-p.ensures.2
    (omega (arith, rw c.in_ok-p.ensures.0 at c.from-n.ensures, c.if-n-ge-LONGEST.false)) c.if-letter-gt3.true)

pub returns : goal.returns
returns c = λ r n.
    let room = rw c.in_ok-p.ensures.0 at c.from-n.ensures in
    rw c.in_ok-p.ensures.0
    (add_done _ _ c.in_ok-p.ensures.1 _ c.in_ok-p.ensures.2 (omega (arith, room, c.if-n-ge-LONGEST.false)) _ room c.if-letter-gt3.false)
