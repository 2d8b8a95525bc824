-- At most as many replies differ as were compared.
use Rattle.std.proofs.Common.{◌≤◌, length}
use Rattle.test_holder.proofs.by_value.differing.Given as goal

abbrev pub invariant-loop-call : goal.invariant-loop-call
invariant-loop-call l = l.others ≤ length l.yielded
