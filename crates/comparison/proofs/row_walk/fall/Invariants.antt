-- The rows so far are raised to the edge's end in each, and the others are unchanged.
use Rattle.std.proofs.Common.{◌≡◌, ◌+◌, ◌≤◌, min, max, length}
use Rattle.chart.specs.Limits.{side}
use Rattle.comparison.specs.parts.Rows.{end_at, in_rows, Raised}
use Rattle.comparison.proofs.row_walk.fall.Given as goal

abbrev pub invariant-loop-row : goal.invariant-loop-row
invariant-loop-row l =
    (l.fn.edge.q.row + 1 ≤ l.row) × (l.row ≤ max (l.fn.edge.q.row + 1) l.fn.edge.p.row) × (length l.fn.end ≡ 256)
    × Raised (in_rows l.fn.edge.q.row l.row (λ n. min (end_at l.fn.edge.p l.fn.edge.q n) side) 0) l.fn.end l.end
