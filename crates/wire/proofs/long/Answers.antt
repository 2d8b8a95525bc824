-- The bytes, low byte first.
use Rattle.std.proofs.Common.{arith}
use Rattle.wire.proofs.long.Goals as goal

pub returns : goal.returns
returns c = omega (arith, c.from_le_bytes.ensures)
