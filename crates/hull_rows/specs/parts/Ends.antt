-- The left ends of a hull's rows, and the lowest of the rows that begin furthest left.
use Rattle.std.specs.Prelude.{ℕ, ◌≤◌, ◌<◌, ◌≡◌}
use Rattle.completion.specs.HullRows.{hull_left}

-- left has the first columns of rows b to t - 1 in the hull of the rows that begin at lo
pub record LeftEnds (lo left : ℕ → ℕ) (b t : ℕ) : Type 0 where
  pub ends : (r : ℕ) → b ≤ r → r < t → left r ≡ hull_left lo b t r

-- Among rows b to t - 1, row m begins furthest left, and it is the lowest that does
pub record Lowest (lo : ℕ → ℕ) (b t m : ℕ) : Type 0 where
  pub low : b ≤ m
  pub high : m < t
  pub least : (r : ℕ) → b ≤ r → r < t → lo m ≤ lo r
  pub lowest : (r : ℕ) → b ≤ r → r < m → lo m < lo r
