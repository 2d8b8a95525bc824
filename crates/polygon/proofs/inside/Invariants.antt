-- The loop's answer for the remaining edges is the answer for all.
use Rattle.std.proofs.Common.{◌*◌}
use Rattle.polygon.proofs.Spans.{Walked}
use Rattle.polygon.proofs.inside.Given as goal

abbrev pub invariant-loop-dx : goal.invariant-loop-dx
invariant-loop-dx l = Walked l.fn.anchor l.edges l.cell l.at l.cols l.rows (2 * l.dx-index)
