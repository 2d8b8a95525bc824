-- The first slot that no place names. After four that are named it is the fifth.
use Rattle.std.proofs.Common.{refl, arith}
use Rattle.base.specs.Below.{first}
use Rattle.holder_memory.proofs.Free.{free-here, free-next, free-last}
use Rattle.holder_memory.proofs.naming.free_tag.Goals as goal

pub loop-t-init : goal.loop-t-init
unfolding first
loop-t-init c = refl

pub returns-then-not-named : goal.returns-then-not-named
returns-then-not-named c = free-here _ _ _ _ (omega arith) c.loop-t.invariant c.named.ensures (rw c.if-not-named.true)

pub loop-t-preserved : goal.loop-t-preserved
loop-t-preserved c = free-next _ _ _ _ c.loop-t.invariant c.named.ensures (rw c.if-not-named.false)

pub returns : goal.returns
returns c = free-last _ _ _ c.loop-t.invariant (omega arith)
