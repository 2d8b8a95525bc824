-- The bounds of the part walked, together with those of the rest, are the bounds of the whole walk.
use Rattle.std.proofs.Common.{◌*◌}
use Rattle.comparison.proofs.Sweeps.{Sweeping}
use Rattle.comparison.proofs.row_walk.sweep.Given as goal

abbrev pub invariant-loop-dx : goal.invariant-loop-dx
invariant-loop-dx l = Sweeping l.edges l.fn.anchor (2 * l.dx-index) l.at l.first l.end
