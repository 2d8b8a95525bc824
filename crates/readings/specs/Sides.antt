-- The side values of edges at a reading: exact, in units of 2 ^ -149, and as the machine computes them (contract 3.18 and 3.19).
use Rattle.std.specs.Prelude.{List, [], ◌∷◌, ℤ, pos, ◌+ℤ◌, Float}
use Rattle.std.specs.Float.{binary32}
use Rattle.std.specs.Float.Ieee.{sub, mul, of_int}
use Rattle.rounding.specs.Units.{value, in_units}
use Rattle.chart.specs.declared.Point.{Point}
use Rattle.convexity.specs.Edges.{Edge, pairs}
use Rattle.convexity.specs.Inside.{side_value}
use Rattle.calls.specs.declared.Reading.{Reading}

-- An edge (cols, rows) and the corner cell (col, row) where it starts
pub record PlacedEdge : Type 0 where
  pub cols : ℤ
  pub rows : ℤ
  pub col : ℤ
  pub row : ℤ

-- The edges of the walk from (x, y), and from an anchor
unfoldable pub edges_from : List Edge → ℤ → ℤ → List PlacedEdge
edges_from [] x y = []
edges_from ((dx, dy) ∷ es) x y = record { cols = dx; rows = dy; col = x; row = y } ∷ edges_from es (x +ℤ dx) (y +ℤ dy)

abbrev pub edges_along : Point → List ℤ → List PlacedEdge
edges_along a es = edges_from (pairs es) (pos a.col) (pos a.row)

-- The side value of contract 3.14, exact: corner cell and reading both in units of 2 ^ -149
unfoldable pub exact_side : Reading → PlacedEdge → ℤ
exact_side r e =
    side_value e.cols e.rows (in_units binary32 e.col) (in_units binary32 e.row) (value binary32 r.angle)
    (value binary32 r.load)

-- The same five steps on floats, each rounded
unfoldable pub computed_side : Reading → PlacedEdge → Float
computed_side r e =
    sub binary32
    (mul binary32 (of_int binary32 e.rows) (sub binary32 r.angle (of_int binary32 e.col)))
    (mul binary32 (of_int binary32 e.cols) (sub binary32 r.load (of_int binary32 e.row)))
