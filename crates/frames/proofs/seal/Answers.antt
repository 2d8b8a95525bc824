-- The checksum of the first bytes stands behind them.
use mathlib.Core.Path.{◌∙◌}
use Rattle.checksum.specs.Stored.{little_endian}
use Rattle.frames.proofs.Frames.{sealed-list}
use Rattle.frames.proofs.seal.Goals as goal

pub returns : goal.returns
unfolding little_endian
returns c = sealed-list _ _ c.args.end c.of-sum.result c.of-sum.ensures (c.copy_from_slice.ensures.after ∙ c.to_le_bytes.ensures)
