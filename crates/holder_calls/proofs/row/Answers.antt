-- Where the question looks decides: 19, 20, or the answer from the slot.
use Rattle.holder_records.specs.Work.{answered}
use Rattle.holder_calls.specs.parts.Asked.{asked_reply}
use Rattle.holder_calls.proofs.Questions.{asked-done}
use mathlib.Core.Path.{◌∙◌}
use Rattle.std.proofs.lemmas.Result.{err_from_is_err_and}
use Rattle.holder_calls.proofs.row.Goals as goal

pub returns-in_err-slot : goal.returns-in_err-slot
unfolding asked_reply
returns-in_err-slot c =
    let q = err_from_is_err_and c.from_residual.result c.from_residual.ensures.1 in
    λ l n. asked-done _ _ _ _ _ c.slot_at.ensures _ (rw (q.1, q.2, c.in_err-slot.was))

pub returns : goal.returns
unfolding asked_reply answered
returns c =
    λ l n. asked-done _ _ _ _ _ c.slot_at.ensures _
    (c.row.ensures n c.args.heads.now ∙ rw c.in_ok-slot.was)
