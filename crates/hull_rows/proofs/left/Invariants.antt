-- The current edge goes across the current row, each earlier row begins where the hull does, and the later rows are unchanged.
use Prim.Native.Nat.{◌≤◌}
use Rattle.rows.specs.parts.Rows.{rows}
use Rattle.hull_rows.proofs.Laws.{Leftward}
use Rattle.hull_rows.proofs.left.Given as goal

abbrev pub invariant-loop-r : goal.invariant-loop-r
invariant-loop-r l = (fits : l.t ≤ 256) × Leftward (rows l.fn.lo) l.b l.t fits l.lo l.i l.r
