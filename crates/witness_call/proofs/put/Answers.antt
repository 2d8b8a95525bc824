-- The six numbers stand in front of what stood behind their places.
use Rattle.std.proofs.Common.{rules}
use Rattle.witness.specs.Witnessed.{three_numbers}
use Rattle.witness_call.proofs.put.Goals as goal

pub returns : goal.returns
unfolding three_numbers
returns c = rw c.copy_from_slice.ensures.after (search rules)
