-- The corner cells of an anchor and a list of edges, on the chart or off it, and their hull (contract 3.17).
use Rattle.std.specs.Prelude.{ℕ, ◌+◌, ◌-◌, ◌<◌, ◌≡◌, Bool, ◌&&◌, List, ◌∷◌, ℤ, pos, ◌+ℤ◌, ◌*ℤ◌}
use Rattle.std.specs.Int.Signed.{le_z}
use Rattle.convexity.specs.Edges.{Edge, pairs}
use Rattle.chart.specs.Limits.{side}
use Rattle.chart.specs.declared.Point.{Point}

-- A column or a row of the chart
unfoldable pub chart_number : ℤ → Bool
chart_number z = le_z (pos 0) z && le_z z (pos (side - 1))

-- A cell of the chart
unfoldable pub is_on_chart : ℤ → ℤ → Bool
is_on_chart u v = chart_number u && chart_number v

-- The edges from (x, y) on meet (u, v): it is their start or the end of an edge
pub data Met : List Edge → ℤ → ℤ → ℤ → ℤ → Type 0 where
  start : {es : List Edge} {x y : ℤ} → Met es x y x y
  after : {es : List Edge} {dx dy x y u v : ℤ} → Met es (x +ℤ dx) (y +ℤ dy) u v → Met ((dx, dy) ∷ es) x y u v

-- A corner cell
pub record Corner (es : List Edge) (x y : ℤ) : Type 0 where
  pub col : ℤ
  pub row : ℤ
  pub met : Met es x y col row

-- (c, r) is a mean of three corner cells, which need not differ. The weights are natural and not all zero
pub record InCornerHull (es : List Edge) (x y c r : ℤ) : Type 0 where
  pub p : Corner es x y
  pub q : Corner es x y
  pub t : Corner es x y
  pub i : ℕ
  pub j : ℕ
  pub k : ℕ
  pub above_zero : 0 < i + j + k
  pub cols : pos (i + j + k) *ℤ c ≡ pos i *ℤ p.col +ℤ pos j *ℤ q.col +ℤ pos k *ℤ t.col
  pub rows : pos (i + j + k) *ℤ r ≡ pos i *ℤ p.row +ℤ pos j *ℤ q.row +ℤ pos k *ℤ t.row

-- The cell x lies in the hull of the corner cells of the anchor a and the edges in the list es
abbrev pub CornersHold : Point → List ℤ → Point → Type 0
CornersHold a es x = InCornerHull (pairs es) (pos a.col) (pos a.row) (pos x.col) (pos x.row)
