-- Refusal 16 for the remaining edges, with the corner cell so far, is refusal 16 for all.
use Rattle.std.proofs.Common.{◌*◌}
use Rattle.polygon.proofs.Turns.{Turned}
use Rattle.polygon.proofs.bad_directions.Given as goal

abbrev pub invariant-loop-dx : goal.invariant-loop-dx
invariant-loop-dx l = Turned l.edges l.at l.last (2 * l.dx-index)
