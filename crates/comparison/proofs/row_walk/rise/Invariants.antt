-- The rows so far are lowered to the edge's first column in each, and the others are unchanged.
use Rattle.std.proofs.Common.{◌+◌, ◌≤◌, min, max}
use Rattle.chart.specs.Limits.{side}
use Rattle.comparison.specs.parts.Rows.{first_at, in_rows, AllBelow, Lowered}
use Rattle.comparison.proofs.row_walk.rise.Given as goal

abbrev pub invariant-loop-row : goal.invariant-loop-row
invariant-loop-row l =
    (l.fn.edge.p.row + 1 ≤ l.row) × (l.row ≤ max (l.fn.edge.p.row + 1) l.fn.edge.q.row) × AllBelow l.fn.first
    × Lowered (in_rows l.fn.edge.p.row l.row (λ n. min (first_at l.fn.edge.p l.fn.edge.q n) side) side) l.fn.first l.first
