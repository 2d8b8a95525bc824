-- What is claimed of the drawing of a taken outline (contract 8.8): its points are the corner cells of the edges, raised by exactly one
-- half, and their hull is the outline's block.
use Rattle.std.specs.Prelude.{ℕ, ◌+◌, ◌*◌, ◌^◌, ◌<◌, ◌≡◌, ◌↔◌, Bool, true, false, ℤ, pos, ◌+ℤ◌, T, Float}
use mathlib.Core.List.{List, [], ◌∷◌, ◌++◌, map, Memᴰ}
use Rattle.std.specs.Float.{binary32}
use Rattle.std.specs.Float.Ieee.{fits}
use Rattle.std.specs.Float.Ieee.Scale.{finite}
use Rattle.rounding.specs.Units.{value}
use Rattle.chart.specs.Limits.{side}
use Rattle.chart.specs.declared.Point.{Point}
use Rattle.lattice.specs.Hull.{InTriangle}
use Rattle.convexity.specs.Edges.{Edge, pairs}
use Rattle.directions.specs.Increasing.{bad_directions}
use Rattle.drawing.specs.Drawing.{a_move, a_line, a_close, drawing}
use Rattle.drawing.specs.Points.{half}

-- The float x is n raised by one half, exactly. In units of 2 ^ -149 one half is 2 ^ 148
pub record Raised (n : ℕ) (x : Float) : Type 0 where
  pub held : T (fits binary32 x)
  pub number : T (finite x)
  pub exact : value binary32 x ≡ pos ((2 * n + 1) * 2 ^ 148)

-- A cell, on the chart or off it, by its column and row
abbrev pub Cell : Type 0
Cell = ℤ × ℤ

abbrev pub cell_of : Point → Cell
cell_of p = (pos p.col, pos p.row)

-- The corner cells in the order of the walk: where it starts, and where each edge ends
unfoldable pub corners_from : List Edge → ℤ → ℤ → List Cell
corners_from [] x y = (x, y) ∷ []
corners_from ((dx, dy) ∷ es) x y = (x, y) ∷ corners_from es (x +ℤ dx) (y +ℤ dy)

abbrev pub corners : Point → List ℤ → List Cell
corners a es = corners_from (pairs es) (pos a.col) (pos a.row)

-- If there is an edge, the walk ends at the anchor again
unfoldable pub again : Point → List Edge → List Cell
again a [] = []
again a (e ∷ es) = cell_of a ∷ []

-- x lies in the triangle of some three of these cells, which need not differ
pub record InHullOf (ps : List Point) (x : Point) : Type 0 where
  pub p : Point
  pub q : Point
  pub t : Point
  pub p_listed : Memᴰ p ps
  pub q_listed : Memᴰ q ps
  pub t_listed : Memᴰ t ps
  pub triangle : InTriangle x p q t

pub record Draws (a : Point) (es : List ℤ) (marked : ℕ → ℕ → Bool) : Type 0 where
  -- the cells that the lines lead to. There is one line to each, and nothing else between the move and the close
  pub ends : List Point
  pub pieces : drawing a es ≡ a_move a ∷ map a_line ends ++ (a_close ∷ [])
  -- the move's cell and these are the corner cells in the order of the walk, without the last, which is the anchor again
  pub met : corners a es ≡ map cell_of (a ∷ ends) ++ again a (pairs es)
  -- they are cells of the chart, and their floats are exact
  pub on_chart : (p : Point) → Memᴰ p (a ∷ ends) → (p.col < side) × (p.row < side)
  pub raised : (p : Point) → Memᴰ p (a ∷ ends) → Raised p.col (half p.col) × Raised p.row (half p.row)
  -- the edges between them are not zero, turn strictly clockwise, and lead back to the anchor
  pub turning : bad_directions es ≡ false
  -- a cell is marked exactly if it lies in the hull of the points
  pub hull : (x : Point) → x.col < side → x.row < side → (marked x.col x.row ≡ true) ↔ InHullOf (a ∷ ends) x
