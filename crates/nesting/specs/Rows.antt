-- The inside cells of a row form an interval of columns: from a first column, included, to an end, excluded. Each edge (dx, dy) from (x,
-- y) bounds it by dy and by its side value b at column 0 of the row, since the side value at column c is dy·c + b.
use Rattle.std.specs.Prelude.{ℕ, zero, suc, ◌/◌, min, max, Bool, cond, List, [], ◌∷◌, ltb, ℤ, pos, negsuc, ◌+ℤ◌}
use Rattle.chart.specs.Limits.{side}
use Rattle.base.specs.Below.{some_below}
use Rattle.convexity.specs.Edges.{Edge}
use Rattle.convexity.specs.Inside.{side_value, col_steps, row_steps, lowest_met, highest_met, within}
use Rattle.nesting.specs.Cells.{Polygon}

-- The first column c with dy·c + b ≥ 0, if dy > 0
unfoldable pub edge_from : ℤ → ℤ → ℕ
edge_from (pos zero) b = 0
edge_from (pos (suc n)) (pos b) = 0
edge_from (pos (suc n)) (negsuc b) = suc (b / suc n)
edge_from (negsuc n) b = 0

-- The column after the last c with dy·c + b ≥ 0, if dy < 0. If dy = 0, the end of the row, or 0 if no column qualifies
unfoldable pub edge_to : ℤ → ℤ → ℕ
edge_to (pos zero) (pos b) = side
edge_to (pos zero) (negsuc b) = 0
edge_to (pos (suc n)) b = side
edge_to (negsuc n) (pos b) = suc (b / suc n)
edge_to (negsuc n) (negsuc b) = 0

-- The bounds by all edges from (x, y) on
unfoldable pub edges_from : List Edge → ℤ → ℤ → ℤ → ℕ
edges_from [] x y r = 0
edges_from ((dx, dy) ∷ es) x y r = max (edge_from dy (side_value dx dy x y (pos 0) r)) (edges_from es (x +ℤ dx) (y +ℤ dy) r)

unfoldable pub edges_to : List Edge → ℤ → ℤ → ℤ → ℕ
edges_to [] x y r = side
edges_to ((dx, dy) ∷ es) x y r = min (edge_to dy (side_value dx dy x y (pos 0) r)) (edges_to es (x +ℤ dx) (y +ℤ dy) r)

-- The smallest natural number not below z; the smallest above z
unfoldable pub start_at : ℤ → ℕ
start_at (pos n) = n
start_at (negsuc n) = 0

unfoldable pub end_after : ℤ → ℕ
end_after (pos n) = suc n
end_after (negsuc n) = 0

-- The interval of row r, within the extremes of the corner cells
unfoldable pub run_from : Polygon → ℕ → ℕ
run_from p r =
    max (start_at (lowest_met (col_steps p.edges) (pos p.anchor.col)))
    (edges_from p.edges (pos p.anchor.col) (pos p.anchor.row) (pos r))

unfoldable pub run_to : Polygon → ℕ → ℕ
run_to p r =
    cond (within (row_steps p.edges) (pos p.anchor.row) (pos r))
    (min (end_after (highest_met (col_steps p.edges) (pos p.anchor.col)))
    (edges_to p.edges (pos p.anchor.col) (pos p.anchor.row) (pos r)))
    0

-- The intervals of two polygons in row r have a common column
unfoldable pub row_meets : Polygon → Polygon → ℕ → Bool
row_meets p q r = ltb (max (run_from p r) (run_from q r)) (min (run_to p r) (run_to q r))

-- They have one in some row of the chart
unfoldable pub rows_meet : Polygon → Polygon → Bool
rows_meet p q = some_below (row_meets p q) side
