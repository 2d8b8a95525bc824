-- Some place of the party names each slot before t.
use Rattle.std.proofs.Common.{◌≡◌}
use Rattle.base.specs.Below.{first}
use Rattle.holder_memory.proofs.Free.{unnamed}
use Rattle.holder_memory.proofs.naming.free_tag.Given as goal

abbrev pub invariant-loop-t : goal.invariant-loop-t
invariant-loop-t l = first (unnamed l.heads l.party) l.t ≡ l.t
