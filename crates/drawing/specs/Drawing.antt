-- The drawing of an anchor and a list of edges, by cells: a move to the anchor, a line for each edge but the last, and a close, which
-- stands for the last edge (contract 3.22).
use Rattle.std.specs.Prelude.{Option, Some, None, ℕ, cond, List, [], ◌∷◌, ◌++◌, get_or, ℤ, pos, nat_abs, ◌+ℤ◌}
use Rattle.chart.specs.declared.Point.{Point}
use Rattle.convexity.specs.Edges.{Edge, pairs}
use Rattle.directions.specs.CornerHull.{is_on_chart}
use Rattle.drawing.specs.declared.Stroke.{Stroke}
use Rattle.drawing.specs.declared.Stroke.TheVariants.{Move, Line, Close}

-- A path command, or none
abbrev pub Command : Type 0
Command = Option Stroke

abbrev pub a_move : Point → Command
a_move p = Some (Move p)

abbrev pub a_line : Point → Command
a_line p = Some (Line p)

abbrev pub a_close : Command
a_close = Some Close

-- A line to a cell of the chart, and nothing for a cell off the chart. No outline at work has a corner cell off the chart
unfoldable pub line_to : ℤ → ℤ → Command
line_to x y = cond (is_on_chart x y) (a_line (record { col = nat_abs x; row = nat_abs y })) None

-- The lines of the walk from (x, y): for each edge but the last, a line to the cell where it ends
unfoldable pub lines_from : List Edge → ℤ → ℤ → List Command
lines_from [] x y = []
lines_from (d ∷ []) x y = []
lines_from ((dx, dy) ∷ e ∷ es) x y = line_to (x +ℤ dx) (y +ℤ dy) ∷ lines_from (e ∷ es) (x +ℤ dx) (y +ℤ dy)

unfoldable pub drawing : Point → List ℤ → List Command
drawing a es = a_move a ∷ lines_from (pairs es) (pos a.col) (pos a.row) ++ (a_close ∷ [])

-- The path command at a position, counted from 0. None after the last
unfoldable pub stroke_at : Point → List ℤ → ℕ → Command
stroke_at a es n = get_or (drawing a es) n None
