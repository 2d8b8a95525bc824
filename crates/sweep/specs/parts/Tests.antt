-- Tests of two intervals of columns, and of two polygons by their intervals in all rows of the chart.
use Rattle.std.specs.Prelude.{ℕ, min, max, Bool, not, ◌&&◌, ◌||◌, leb, ltb}
use Rattle.chart.specs.Limits.{side}
use Rattle.base.specs.Below.{every}
use Rattle.nesting.specs.Cells.{Polygon}
use Rattle.sweep.specs.parts.Sweep.{row_from, row_to}

-- The interval from a to b, which may be empty, lies within the interval from c to d. Ends are excluded
unfoldable pub run_within : ℕ → ℕ → ℕ → ℕ → Bool
run_within a b c d = leb b a || (leb c a && leb b d)

-- The two have a common column
unfoldable pub runs_meet : ℕ → ℕ → ℕ → ℕ → Bool
runs_meet a b c d = ltb (max a c) (min b d)

-- In every row, the first polygon's interval lies within the second's
unfoldable pub rows_within : Polygon → Polygon → Bool
rows_within p q = every (λ r. run_within (row_from p r) (row_to p r) (row_from q r) (row_to q r)) side

-- No row has a common column
unfoldable pub rows_apart : Polygon → Polygon → Bool
rows_apart p q = every (λ r. not (runs_meet (row_from p r) (row_to p r) (row_from q r) (row_to q r))) side
