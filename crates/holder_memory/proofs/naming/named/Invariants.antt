-- No place before k names the slot.
use Rattle.std.proofs.Common.{◌≡◌}
use Rattle.base.specs.Below.{first}
use Rattle.holder_memory.proofs.Free.{names}
use Rattle.holder_memory.proofs.naming.named.Given as goal

abbrev pub invariant-loop-k : goal.invariant-loop-k
invariant-loop-k l = first (names l.heads l.party l.tag) l.k ≡ l.k
