-- Where a reading lies (contract 3.20, 3.21 and 5.2): exactly inside, and the answer from computed side values.
use Rattle.std.specs.Prelude.{Result, Ok, Err, ℕ, ◌-◌, Bool, true, false, not, cond, ◌&&◌, ◌||◌, List, ℤ, pos, negsuc, ◌+ℤ◌, T, Float}
use Rattle.std.specs.Int.Signed.{le_z}
use Rattle.std.specs.Float.{nan, inf, fin, binary32}
use Rattle.std.specs.Float.Ieee.{fits, le, lt, of_bits}
use Rattle.base.specs.Each.{all_pass, some_pass}
use Rattle.rounding.specs.Units.{value, in_units}
use Rattle.chart.specs.Limits.{side}
use Rattle.chart.specs.declared.Point.{Point}
use Rattle.chart.specs.declared.Refusal.{Refusal}
use Rattle.chart.specs.declared.Refusal.TheVariants.{Cell}
use Rattle.convexity.specs.Edges.{pairs}
use Rattle.convexity.specs.Inside.{not_negative, col_steps, row_steps, lowest_met, highest_met}
use Rattle.directions.specs.CornerHull.{is_on_chart}
use Rattle.calls.specs.declared.Reading.{Reading}
use Rattle.readings.specs.declared.Located.{Located}
use Rattle.readings.specs.declared.Located.TheVariants.{Inside, Outside, Undecided}
use Rattle.readings.specs.Sides.{PlacedEdge, edges_along, exact_side, computed_side}

-- Both numbers are 32-bit floats
pub record Held (r : Reading) : Type 0 where
  pub angle : T (fits binary32 r.angle)
  pub load : T (fits binary32 r.load)

-- 11, of one number: NaN, infinite, below 0, or above 254
unfoldable pub bad_number : Float → Bool
bad_number nan = true
bad_number (inf s) = true
bad_number (fin s m e) =
    let v = value binary32 (fin s m e) in
    not (le_z (pos 0) v && le_z v (in_units binary32 (pos (side - 1))))

-- 11, of a reading: either number is bad
unfoldable pub bad_reading : Reading → Bool
bad_reading r = bad_number r.angle || bad_number r.load

-- Between the lowest and the highest number on the walk from x, compared exactly
unfoldable pub between : List ℤ → ℤ → Float → Bool
between ds x v = le_z (in_units binary32 (lowest_met ds x)) (value binary32 v) && le_z (value binary32 v) (in_units binary32 (highest_met ds x))

-- Between the extreme columns and rows
unfoldable pub within_extremes : Point → List ℤ → Reading → Bool
within_extremes a es r = between (col_steps (pairs es)) (pos a.col) r.angle && between (row_steps (pairs es)) (pos a.row) r.load

-- Between the extremes, and no exact side value is below 0
unfoldable pub exactly_inside : Point → List ℤ → Reading → Bool
exactly_inside a es r = within_extremes a es r && all_pass (λ e. not_negative (exact_side r e)) (edges_along a es)

-- The computed side value is at most -1/64; it is below 1/64. 1/64 is the float 1 * 2 ^ -6
unfoldable pub far : Reading → PlacedEdge → Bool
far r e = le (computed_side r e) (fin true 1 (negsuc 5))

unfoldable pub near : Reading → PlacedEdge → Bool
near r e = lt (computed_side r e) (fin false 1 (negsuc 5))

-- Outside if not between the extremes or far outside some edge; otherwise undecided if near some edge; otherwise inside
unfoldable pub sided : Point → List ℤ → Reading → Located
sided a es r =
    cond (within_extremes a es r && not (some_pass (far r) (edges_along a es)))
    (cond (some_pass (near r) (edges_along a es)) Undecided Inside)
    Outside

-- An edge that ends at a cell of the chart
unfoldable pub ends_on : PlacedEdge → Bool
ends_on e = is_on_chart (e.col +ℤ e.cols) (e.row +ℤ e.rows)

-- The walk stays on the chart: the anchor and the end of every edge are cells of the chart
unfoldable pub stays_on : Point → List ℤ → Bool
stays_on a es = is_on_chart (pos a.col) (pos a.row) && all_pass ends_on (edges_along a es)

-- The answer for every anchor, list and pair of floats. If the walk leaves the chart, as no outline's at work does, it is outside
unfoldable pub located_of : Point → List ℤ → Reading → Result Located Refusal
located_of a es r = cond (bad_reading r) (Err Cell) (Ok (cond (stays_on a es) (sided a es r) Outside))

-- The reading of two bit patterns. Every NaN pattern becomes the same NaN
unfoldable pub reading_of : ℕ → ℕ → Reading
reading_of a l = record { angle = of_bits binary32 a; load = of_bits binary32 l }
