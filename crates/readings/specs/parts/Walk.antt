-- The walk along the edges that locates a reading: what its steps promise each other.
use Rattle.std.specs.Prelude.{Option, Some, None, ◌-◌, ◌^◌, ◌≤◌, ◌≡◌, ◌⊎◌, Bool, true, false, cond, ◌&&◌, ◌||◌, List, length, ℤ, pos, nat_abs, Float}
use Rattle.std.specs.Int.Signed.{le_z}
use Rattle.std.specs.Float.{binary32}
use Rattle.rounding.specs.Units.{value, in_units}
use Rattle.chart.specs.Limits.{side, most_numbers, longest_list}
use Rattle.chart.specs.declared.Point.{Point}
use Rattle.convexity.specs.Inside.{minℤ, maxℤ}
use Rattle.edge_walk.specs.declared.Corner.{Corner}
use Rattle.edge_walk.specs.parts.Walk.{started, stepped}
use Rattle.calls.specs.declared.Reading.{Reading}
use Rattle.readings.specs.declared.Located.{Located}
use Rattle.readings.specs.declared.Located.TheVariants.{Inside, Outside, Undecided}
use Rattle.readings.specs.declared.walk.Met.{Met}
use Rattle.readings.specs.declared.walk.Walk.{Walk}
use Rattle.readings.specs.Sides.{PlacedEdge}
use Rattle.readings.specs.Located.{far, near, stays_on}

-- A number that 100 edges can lead to, so that it is exactly a float
abbrev pub Reached : ℤ → Type 0
Reached z = nat_abs z ≤ 2 ^ 23

-- Every number of the walk is such a one: there are at most 100 edges, or the walk stays on the chart
abbrev pub Tame : Point → List ℤ → Type 0
Tame a es = (length es ≤ most_numbers) ⊎ ((length es ≤ longest_list) × (stays_on a es ≡ true))

-- One number alone, and one more
abbrev pub alone : ℤ → Met
alone n = record { least = n; most = n }

unfoldable pub met : Met → ℤ → Met
met m n = record { least = minℤ m.least n; most = maxℤ m.most n }

-- The walk one corner cell further. n says whether the reading is near the edge that leads there
unfoldable pub arrived : Walk → Corner → Bool → Walk
arrived w k n = record { at = k; cols = met w.cols k.col; rows = met w.rows k.row; near = w.near || n }

-- The walk at its start
unfoldable pub begun : Point → Walk
begun a = record { at = started a; cols = alone (pos a.col); rows = alone (pos a.row); near = false }

-- The edge that the walk takes next
unfoldable pub edge_of : Walk → ℤ → ℤ → PlacedEdge
edge_of w dx dy = record { cols = dx; rows = dy; col = w.at.col; row = w.at.row }

-- The walk at the end of that edge. There is none if the reading is far outside the edge
unfoldable pub moved : Walk → ℤ → ℤ → Reading → Walk
moved w dx dy r = arrived w (stepped w.at dx dy) (near r (edge_of w dx dy))

unfoldable pub passed : Walk → ℤ → ℤ → Reading → Option Walk
passed w dx dy r = cond (far r (edge_of w dx dy)) None (Some (moved w dx dy r))

-- The numbers met are on the chart, and x lies between them
unfoldable pub spanned : Met → Float → Bool
spanned m x =
    (le_z (pos 0) m.least && le_z m.most (pos (side - 1)))
    && (le_z (in_units binary32 m.least) (value binary32 x) && le_z (value binary32 x) (in_units binary32 m.most))

-- The answer at the end of the walk
unfoldable pub settled : Walk → Reading → Located
settled w r = cond (spanned w.cols r.angle) (cond (spanned w.rows r.load) (cond w.near Undecided Inside) Outside) Outside
