-- 11 refuses a cell exactly if it is not on the chart: its numbers are natural, so each is on the chart unless it is too large.
use mathlib.Core.Path.{◌≡◌, refl}
use mathlib.Core.Bool.{Bool, true, false, not, ◌&&◌, ◌||◌}
use lib.Dec.{leb}
use lib.IntN.{pos}
use Rattle.chart.specs.Limits.{side}
use Rattle.chart.specs.declared.Point.{Point}
use Rattle.directions.specs.CornerHull.{is_on_chart}
use Rattle.directions.proofs.OnChart.{number_is}
use Rattle.polygon.specs.Loose.{bad_cell}

pub bad-cell : (p : Point) → bad_cell p ≡ not (is_on_chart (pos p.col) (pos p.row))
unfolding bad_cell is_on_chart
bad-cell p = rw (number_is p.col, number_is p.row) (either (leb side p.col) (leb side p.row))
  where
    either : (s t : Bool) → (s || t) ≡ not (not s && not t)
    either true t = refl
    either false true = refl
    either false false = refl
