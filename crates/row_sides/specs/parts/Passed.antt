-- What one pass over the letters finds in each row.
use Rattle.std.specs.Prelude.{◌≡◌, ℕ, ◌<◌, max, cond, List, length, ◌==◌}
use Rattle.chart.specs.Limits.{corners, side}
use Rattle.chart.specs.declared.Point.{Point}
use Rattle.chart.specs.Outline.{Outline}
use Rattle.rows.specs.parts.Rows.{rows}
use Rattle.completion.specs.Sides.{along_row, first_side, last_side, lowest_corner, highest_corner}
use Rattle.witness.specs.Gap.{second_side}
use Rattle.witness.specs.parts.Kept.{Two, keep_two}

-- The letter a from a corner at height y steps along row x. If x is 255, it steps along no row of the chart
pub record Tells (y a x : ℕ) : Type 0 where
  pub below : x < corners
  pub tells : (p : Point) → p.row ≡ y → (r : ℕ) → r < side → along_row r p a ≡ (x == r)

-- The three arrays after the letter a from corner p: a side more of the row along which it steps, if any
pub record Marks (p : Point) (a : ℕ) (lo en hi lo' en' hi' : List ℕ) : Type 0 where
  pub lo_size : length lo' ≡ corners
  pub en_size : length en' ≡ corners
  pub hi_size : length hi' ≡ corners
  pub two : (r : ℕ) → r < side
      → ◌≡◌ {A = Two} (record { one = rows lo' r; two = rows en' r })
      (cond (along_row r p a) (keep_two p.col (record { one = rows lo r; two = rows en r }))
      (record { one = rows lo r; two = rows en r }))
  pub last : (r : ℕ) → r < side → rows hi' r ≡ cond (along_row r p a) (max p.col (rows hi r)) (rows hi r)

-- The first, the second and the last side of each row, and the rows of the lowest and the highest corner
pub record Passed (o : Outline) (lo en hi : List ℕ) (low high : ℕ) : Type 0 where
  pub first : (r : ℕ) → r < side → rows lo r ≡ first_side o r
  pub second : (r : ℕ) → r < side → rows en r ≡ second_side o r
  pub last : (r : ℕ) → r < side → rows hi r ≡ last_side o r
  pub lowest : low ≡ lowest_corner o
  pub highest : high ≡ highest_corner o
