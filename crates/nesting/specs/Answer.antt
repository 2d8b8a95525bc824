-- The answer for two polygons by three tests: the corner cells of each lie inside the other, and intervals of columns meet in some row.
-- Then the answer with the two exchanged.
use Rattle.std.specs.Prelude.{Bool, true, false, pos}
use Rattle.chart.specs.declared.Nesting.{Nesting}
use Rattle.chart.specs.declared.Nesting.TheVariants.{Equal, FirstWithin, SecondWithin, Apart, Crossing}
use Rattle.nesting.specs.Cells.{Polygon}
use Rattle.nesting.specs.Corners.{corners_inside}
use Rattle.nesting.specs.Rows.{rows_meet}

-- The answer from three facts: the first is within the second; the second is within the first; they have a common cell
unfoldable pub by_tests : Bool → Bool → Bool → Nesting
by_tests true true m = Equal
by_tests true false m = FirstWithin
by_tests false true m = SecondWithin
by_tests false false true = Crossing
by_tests false false false = Apart

-- Every corner cell of the first is inside the second
unfoldable pub lies_within : Polygon → Polygon → Bool
lies_within p q =
    corners_inside p.edges (pos p.anchor.col) (pos p.anchor.row) q.edges (pos q.anchor.col) (pos q.anchor.row)

unfoldable pub nesting : Polygon → Polygon → Nesting
nesting p q = by_tests (lies_within p q) (lies_within q p) (rows_meet p q)

-- The answer with the polygons exchanged: the two "within" change places, the other three stay
unfoldable pub exchanged : Nesting → Nesting
exchanged Equal = Equal
exchanged FirstWithin = SecondWithin
exchanged SecondWithin = FirstWithin
exchanged Apart = Apart
exchanged Crossing = Crossing
