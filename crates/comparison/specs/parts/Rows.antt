-- The rows of a polygon in two lists: the first column of each row, and the column past the last. What a corner cell and an edge add to
-- them, what they hold after the walk, and how two such pairs compare.
use Rattle.std.specs.Prelude.{ℕ, ◌+◌, ◌*◌, ◌≤◌, ◌<◌, min, max, ◌≡◌, cond, not, ◌&&◌, List, ltb, pos, ◌-ℤ◌, length, get_or}
use Rattle.base.specs.Below.{every}
use Rattle.chart.specs.Limits.{side}
use Rattle.chart.specs.declared.Point.{Point}
use Rattle.nesting.specs.Cells.{Polygon}
use Rattle.nesting.specs.Rows.{edge_from, edge_to}
use Rattle.sweep.specs.parts.Sweep.{corner_from, corner_to, row_from, row_to}
use Rattle.sweep.specs.parts.Tests.{run_within, runs_meet, rows_within, rows_apart}
use Rattle.comparison.specs.declared.row_walk.EdgeAtRow.{EdgeAtRow}
use Rattle.comparison.specs.declared.row_walk.Tests.{Tests}

-- The edge from p to q at row r: its rows, and its side value at column 0 as a difference
abbrev pub edge_at_row : Point → Point → ℕ → EdgeAtRow
edge_at_row p q r = record { y = p.row; v = q.row; plus = q.col * p.row + p.col * r; minus = q.row * p.col + q.col * r }

-- The first column of the row inside the edge, and the column past the last
unfoldable pub first_of : EdgeAtRow → ℕ
first_of e = edge_from (pos e.v -ℤ pos e.y) (pos e.plus -ℤ pos e.minus)

unfoldable pub end_of : EdgeAtRow → ℕ
end_of e = edge_to (pos e.v -ℤ pos e.y) (pos e.plus -ℤ pos e.minus)

abbrev pub first_at : Point → Point → ℕ → ℕ
first_at p q r = first_of (edge_at_row p q r)

abbrev pub end_at : Point → Point → ℕ → ℕ
end_at p q r = end_of (edge_at_row p q r)

-- f in the rows strictly between a and b, and d in the others
unfoldable pub in_rows : ℕ → ℕ → (ℕ → ℕ) → ℕ → ℕ → ℕ
in_rows a b f d r = cond (ltb a r && ltb r b) (f r) d

-- The bounds that a corner cell gives for row r
unfoldable pub met_from : Point → ℕ → ℕ
met_from p r = corner_from (pos p.col) (pos p.row) r

unfoldable pub met_to : Point → ℕ → ℕ
met_to p r = corner_to (pos p.col) (pos p.row) r

-- The bound that an edge gives for row r: on the left if it rises through the row, on the right if it falls
abbrev pub risen_from : Point → Point → ℕ → ℕ
risen_from p q r = in_rows p.row q.row (λ n. min (first_at p q n) side) side r

abbrev pub fallen_to : Point → Point → ℕ → ℕ
fallen_to p q r = in_rows q.row p.row (λ n. min (end_at p q n) side) 0 r

-- One number for each row of the chart and one more, none above 255
pub record AllBelow (l : List ℕ) : Type 0 where
  pub long : length l ≡ 256
  pub at : (r : ℕ) → r < side → get_or l r 0 ≤ side

-- Each number is the minimum, or the maximum, of its old value and the bound for its row
pub record Lowered (f : ℕ → ℕ) (before after : List ℕ) : Type 0 where
  pub long : length after ≡ length before
  pub at : (r : ℕ) → r < side → get_or after r 0 ≡ min (get_or before r 0) (f r)

pub record Raised (f : ℕ → ℕ) (before after : List ℕ) : Type 0 where
  pub long : length after ≡ length before
  pub at : (r : ℕ) → r < side → get_or after r 0 ≡ max (get_or before r 0) (f r)

-- The two lists hold the columns of a polygon's rows
pub record Swept (p : Polygon) (first end : List ℕ) : Type 0 where
  pub from : (r : ℕ) → r < side → get_or first r 0 ≡ row_from p r
  pub to : (r : ℕ) → r < side → get_or end r 0 ≡ row_to p r

-- The three tests, of two polygons and of two pairs of lists
unfoldable pub tests_of : Polygon → Polygon → Tests
tests_of p q = record { inward = rows_within p q; outward = rows_within q p; apart = rows_apart p q }

unfoldable pub compared_to : List ℕ → List ℕ → List ℕ → List ℕ → ℕ → Tests
compared_to f e g h n =
    record {
      inward = every (λ r. run_within (get_or f r 0) (get_or e r 0) (get_or g r 0) (get_or h r 0)) n;
      outward = every (λ r. run_within (get_or g r 0) (get_or h r 0) (get_or f r 0) (get_or e r 0)) n;
      apart = every (λ r. not (runs_meet (get_or f r 0) (get_or e r 0) (get_or g r 0) (get_or h r 0))) n;
    }

abbrev pub compared : List ℕ → List ℕ → List ℕ → List ℕ → Tests
compared f e g h = compared_to f e g h side
