-- When a cell is inside a list of edges: side values and extremes (contract 3.14 and 3.15).
use Rattle.std.specs.Prelude.{Bool, true, false, cond, ◌&&◌, List, [], ◌∷◌, ℤ, pos, negsuc, ◌+ℤ◌, ◌-ℤ◌, ◌*ℤ◌}
use Rattle.std.specs.Int.Signed.{le_z}
use Rattle.chart.specs.declared.Point.{Point}
use Rattle.convexity.specs.Edges.{Edge, pairs}

unfoldable pub not_negative : ℤ → Bool
not_negative (pos n) = true
not_negative (negsuc n) = false

unfoldable pub minℤ : ℤ → ℤ → ℤ
minℤ a b = cond (le_z a b) a b

unfoldable pub maxℤ : ℤ → ℤ → ℤ
maxℤ a b = cond (le_z a b) b a

-- The side value at a cell of an edge (dx, dy) that starts at (x, y)
unfoldable pub side_value : ℤ → ℤ → ℤ → ℤ → ℤ → ℤ → ℤ
side_value dx dy x y c r = dy *ℤ (c -ℤ x) -ℤ dx *ℤ (r -ℤ y)

-- No side value of the edges from (x, y) on is below 0
unfoldable pub none_outside : List Edge → ℤ → ℤ → ℤ → ℤ → Bool
none_outside [] x y c r = true
none_outside ((dx, dy) ∷ es) x y c r = not_negative (side_value dx dy x y c r) && none_outside es (x +ℤ dx) (y +ℤ dy) c r

-- The column steps, and the row steps, of a list of edges
unfoldable pub col_steps : List Edge → List ℤ
col_steps [] = []
col_steps ((dx, dy) ∷ es) = dx ∷ col_steps es

unfoldable pub row_steps : List Edge → List ℤ
row_steps [] = []
row_steps ((dx, dy) ∷ es) = dy ∷ row_steps es

-- The sum of a list
unfoldable pub total : List ℤ → ℤ
total [] = pos 0
total (d ∷ ds) = d +ℤ total ds

-- The lowest and the highest number on the way from x along the steps, with both ends
unfoldable pub lowest_met : List ℤ → ℤ → ℤ
lowest_met [] x = x
lowest_met (d ∷ ds) x = minℤ x (lowest_met ds (x +ℤ d))

unfoldable pub highest_met : List ℤ → ℤ → ℤ
highest_met [] x = x
highest_met (d ∷ ds) x = maxℤ x (highest_met ds (x +ℤ d))

unfoldable pub within : List ℤ → ℤ → ℤ → Bool
within ds x c = le_z (lowest_met ds x) c && le_z c (highest_met ds x)

-- (c, r), on the chart or off it, is inside the edges es from (x, y)
unfoldable pub inside_at : List Edge → ℤ → ℤ → ℤ → ℤ → Bool
inside_at es x y c r = within (col_steps es) x c && within (row_steps es) y r && none_outside es x y c r

-- The cell x is inside the anchor a and the edges in the list es
unfoldable pub inside_edges : Point → List ℤ → Point → Bool
inside_edges a es x = inside_at (pairs es) (pos a.col) (pos a.row) (pos x.col) (pos x.row)
