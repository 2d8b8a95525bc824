-- The rest of the walk stays on the chart exactly if all of it does.
use Rattle.std.proofs.Common.{◌*◌}
use Rattle.comparison.proofs.Steps.{Leaving}
use Rattle.comparison.proofs.leaves_chart.Given as goal

abbrev pub invariant-loop-dx : goal.invariant-loop-dx
invariant-loop-dx l = Leaving l.edges l.initial.at (2 * l.dx-index) l.at
