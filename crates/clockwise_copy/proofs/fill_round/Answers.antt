-- The letters from the place on and those up to it are copied one behind the other; backward the other way round.
use Rattle.clockwise_copy.proofs.CopyLaws.{round-forward, round-backward}
use Rattle.clockwise_copy.proofs.fill_round.Goals as goal

pub returns-then-forward : goal.returns-then-forward
returns-then-forward c h room =
    rw c.if-forward.true
    (round-forward c.args.w.now c.args.from h _ _ c.copy_from_slice.ensures.after c.copy_from_slice-then-forward.ensures.after)

pub returns-else-forward : goal.returns-else-forward
returns-else-forward c h room =
    rw c.if-forward.false
    (round-backward c.args.w.now c.args.from h _ _ c.copy_back.ensures c.copy_back-else-forward.ensures)
