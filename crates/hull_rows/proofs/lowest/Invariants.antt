-- Among the rows so far, the current one is the lowest of those that begin furthest left.
use Rattle.rows.specs.parts.Rows.{rows}
use Rattle.hull_rows.specs.parts.Ends.{Lowest}
use Rattle.hull_rows.proofs.lowest.Given as goal

abbrev pub invariant-loop-r : goal.invariant-loop-r
invariant-loop-r l = Lowest (rows l.lo) l.b l.r l.m
