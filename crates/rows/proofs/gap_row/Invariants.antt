-- None of the rows visited so far begins right of the line.
use Rattle.rows.specs.parts.Rows.{rows}
use Rattle.rows.proofs.SearchLaws.{NoGap}
use Rattle.rows.proofs.gap_row.Given as goal

abbrev pub invariant-loop-r : goal.invariant-loop-r
invariant-loop-r l = NoGap (rows l.lo) l.i l.j l.r
