-- What stands in the buffer, followed by what is still to be written, is the border. Each iteration writes one edge.
use Rattle.std.proofs.Common.{◌*◌}
use Rattle.border.proofs.Building.{Building}
use Rattle.border.proofs.writer.build.Given as goal

abbrev pub invariant-loop-dx : goal.invariant-loop-dx
invariant-loop-dx l = Building l.edges l.initial.letters l.letters l.writer.at l.writer.piece (2 * l.dx-index)
