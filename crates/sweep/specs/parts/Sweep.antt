-- The columns of each row by one pass along the edges. A corner cell gives its own column. An edge that goes up gives, in each row
-- strictly between its ends, the first column on its inner side. An edge that goes down gives the end, excluded. The row's interval goes
-- from the least first column to the greatest end.
use Rattle.std.specs.Prelude.{ℕ, min, max, Bool, cond, ◌&&◌, List, [], ◌∷◌, ℤ, pos, ◌+ℤ◌}
use Rattle.std.specs.Int.Signed.{lt_z}
use Rattle.base.specs.Same.{sameℤ}
use Rattle.chart.specs.Limits.{side}
use Rattle.convexity.specs.Edges.{Edge}
use Rattle.convexity.specs.Inside.{side_value}
use Rattle.nesting.specs.Cells.{Polygon}
use Rattle.nesting.specs.Rows.{edge_from, edge_to, start_at, end_after}

-- Row r lies strictly between two rows
unfoldable pub between : ℤ → ℤ → ℕ → Bool
between y v r = lt_z y (pos r) && lt_z (pos r) v

-- What a corner cell (x, y) gives in row r
unfoldable pub corner_from : ℤ → ℤ → ℕ → ℕ
corner_from x y r = cond (sameℤ y (pos r)) (min (start_at x) side) side

unfoldable pub corner_to : ℤ → ℤ → ℕ → ℕ
corner_to x y r = cond (sameℤ y (pos r)) (min (end_after x) side) 0

-- What an edge (dx, dy) from (x, y) gives in row r
unfoldable pub rise_from : ℤ → ℤ → ℤ → ℤ → ℕ → ℕ
rise_from dx dy x y r = cond (between y (y +ℤ dy) r) (min (edge_from dy (side_value dx dy x y (pos 0) (pos r))) side) side

unfoldable pub fall_to : ℤ → ℤ → ℤ → ℤ → ℕ → ℕ
fall_to dx dy x y r = cond (between (y +ℤ dy) y r) (min (edge_to dy (side_value dx dy x y (pos 0) (pos r))) side) 0

-- The least, and the greatest, along the edges es from (x, y)
unfoldable pub swept_from : List Edge → ℤ → ℤ → ℕ → ℕ
swept_from [] x y r = corner_from x y r
swept_from ((dx, dy) ∷ es) x y r = min (min (corner_from x y r) (rise_from dx dy x y r)) (swept_from es (x +ℤ dx) (y +ℤ dy) r)

unfoldable pub swept_to : List Edge → ℤ → ℤ → ℕ → ℕ
swept_to [] x y r = corner_to x y r
swept_to ((dx, dy) ∷ es) x y r = max (max (corner_to x y r) (fall_to dx dy x y r)) (swept_to es (x +ℤ dx) (y +ℤ dy) r)

-- The interval of columns of a polygon's row
unfoldable pub row_from : Polygon → ℕ → ℕ
row_from p r = swept_from p.edges (pos p.anchor.col) (pos p.anchor.row) r

unfoldable pub row_to : Polygon → ℕ → ℕ
row_to p r = swept_to p.edges (pos p.anchor.col) (pos p.anchor.row) r
