-- A block of cells given by its rows, a list of numbers as a function of the row, and what the arrays of the code hold.
use Rattle.std.specs.Prelude.{◌≡◌, ℕ, suc, ◌-◌, ◌<◌, ◌≤◌, Bool, cond, ◌&&◌, List, length, nat_le, nat_lt, slice_index}
use Rattle.chart.specs.Outline.{Outline}
use Rattle.rows.specs.Search.{kept_up, kept_down, furthest}

-- The block of rows b to t - 1 as a marking (lattice/specs/Hull.antt). Row r goes from column lo r up to but not including column hi r
unfoldable pub in_rows : (ℕ → ℕ) → (ℕ → ℕ) → ℕ → ℕ → ℕ → ℕ → Bool
in_rows lo hi b t c r = (nat_le b r && nat_lt r t) && (nat_le (lo r) c && nat_lt c (hi r))

-- The number at row r, or 0 past the last row
abbrev pub rows : List ℕ → ℕ → ℕ
rows l r = slice_index l r

-- m is l with column c stored at the rows for which the test holds
pub record Marked (test : ℕ → Bool) (c : ℕ) (l m : List ℕ) : Type 0 where
  pub size : length m ≡ 256
  pub marked : (r : ℕ) → r < 256 → rows m r ≡ cond (test r) c (rows l r)

-- lo and hi hold the columns of the last up and of the last down along each row
pub record RowEnds (o : Outline) (lo hi : List ℕ) : Type 0 where
  pub lo_up : (r : ℕ) → r < 256 → rows lo r ≡ kept_up o r
  pub hi_down : (r : ℕ) → r < 256 → rows hi r ≡ kept_down o r

-- next holds, for each of rows b to t - 2, the row that is furthest left of the rows above it and below t. Among equals it is the highest
pub record Tangents (lo next : ℕ → ℕ) (b t : ℕ) : Type 0 where
  pub furthest_left : (i : ℕ) → b ≤ i → suc i < t → next i ≡ furthest lo i (suc i) (suc (suc i)) (t - suc (suc i))
