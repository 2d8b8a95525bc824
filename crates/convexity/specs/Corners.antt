-- W, N, E and S in plain words (contract 3.1). Each is a corner that the walk leaves: extreme on one side and, among the corners of that
-- side, extreme in one direction.
use Rattle.std.specs.Prelude.{ℕ, ◌≤◌, ◌<◌, ◌≡◌}
use Rattle.chart.specs.declared.Point.{Point}
use Rattle.chart.specs.Outline.{Outline}
use Rattle.lattice.specs.Chart.{corner_at, size}
use Rattle.convexity.specs.Cut.{corner_place}

-- The walk leaves the corner p, with the letter at some place
pub record OnWalk (o : Outline) (p : Point) : Type 0 where
  pub place : ℕ
  pub below : place < size o
  pub corner : corner_at o place ≡ p

-- W: the lowest of the leftmost column
pub record IsWest (o : Outline) (p : Point) : Type 0 where
  pub on_walk : OnWalk o p
  pub leftmost : (j : ℕ) → j < size o → p.col ≤ (corner_at o j).col
  pub lowest : (j : ℕ) → j < size o → (corner_at o j).col ≡ p.col → p.row ≤ (corner_at o j).row

-- N: the leftmost of the top row
pub record IsNorth (o : Outline) (p : Point) : Type 0 where
  pub on_walk : OnWalk o p
  pub highest : (j : ℕ) → j < size o → (corner_at o j).row ≤ p.row
  pub leftmost : (j : ℕ) → j < size o → (corner_at o j).row ≡ p.row → p.col ≤ (corner_at o j).col

-- E: the highest of the rightmost column
pub record IsEast (o : Outline) (p : Point) : Type 0 where
  pub on_walk : OnWalk o p
  pub rightmost : (j : ℕ) → j < size o → (corner_at o j).col ≤ p.col
  pub highest : (j : ℕ) → j < size o → (corner_at o j).col ≡ p.col → (corner_at o j).row ≤ p.row

-- S: the rightmost of the bottom row
pub record IsSouth (o : Outline) (p : Point) : Type 0 where
  pub on_walk : OnWalk o p
  pub lowest : (j : ℕ) → j < size o → p.row ≤ (corner_at o j).row
  pub rightmost : (j : ℕ) → j < size o → (corner_at o j).row ≡ p.row → (corner_at o j).col ≤ p.col

-- The letter at place i leaves a corner for which P holds, and no other letter does
pub record OnlyAt (o : Outline) (P : Point → Type 0) (i : ℕ) : Type 0 where
  pub below : i < size o
  pub here : P (corner_at o i)
  pub only : (j : ℕ) → j < size o → P (corner_at o j) → j ≡ i

-- The border is cut at the places of W, N, E and S
pub record FourCorners (o : Outline) : Type 0 where
  pub west : OnlyAt o (IsWest o) (corner_place o 0)
  pub north : OnlyAt o (IsNorth o) (corner_place o 1)
  pub east : OnlyAt o (IsEast o) (corner_place o 2)
  pub south : OnlyAt o (IsSouth o) (corner_place o 3)
