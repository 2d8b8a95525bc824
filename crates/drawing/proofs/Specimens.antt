-- The drawings of the specimens H1, H2 and H3 (contract 9), and some halves, as the checker computes them.
use mathlib.Core.Path.{◌≡◌, refl}
use mathlib.Core.Bool.{false}
use mathlib.Core.List.{[], ◌∷◌}
use lib.IntN.{pos, negsuc}
use lib.Ieee.{fin, add, of_int}
use Rattle.chart.specs.Outline.{at}
use Rattle.convexity.specs.Edges.{pairs}
use Rattle.directions.specs.CornerHull.{chart_number, is_on_chart}
use Rattle.drawing.specs.Drawing.{a_move, a_line, a_close, line_to, lines_from, drawing}
use Rattle.drawing.specs.Points.{half}

-- One cell has no line
one_cell : drawing (at 0 0) [] ≡ a_move (at 0 0) ∷ a_close ∷ []
unfolding drawing pairs lines_from
one_cell = refl

flat : drawing (at 0 0) (pos 2 ∷ pos 0 ∷ negsuc 1 ∷ pos 0 ∷ []) ≡ a_move (at 0 0) ∷ a_line (at 2 0) ∷ a_close ∷ []
unfolding drawing pairs lines_from line_to is_on_chart chart_number
flat = refl

diamond :
    drawing (at 0 1) (pos 1 ∷ pos 1 ∷ pos 1 ∷ negsuc 0 ∷ negsuc 0 ∷ negsuc 0 ∷ negsuc 0 ∷ pos 1 ∷ [])
    ≡ a_move (at 0 1) ∷ a_line (at 1 2) ∷ a_line (at 2 1) ∷ a_line (at 1 0) ∷ a_close ∷ []
unfolding drawing pairs lines_from line_to is_on_chart chart_number
diamond = refl

-- 1/2, 5/2 and 509/2
halves : (half 0 ≡ fin false 1 (negsuc 0)) × (half 2 ≡ fin false 5 (negsuc 0)) × (half 254 ≡ fin false 509 (negsuc 0))
unfolding half add of_int
halves = (refl, refl, refl)
