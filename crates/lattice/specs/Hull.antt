-- The hull of a set of cells, and the cells missing from the set (contract 2.5 to 2.7). A set is given by a test of a cell's column and
-- row. For a walk o that test is `encloses o`.
use Rattle.std.specs.Prelude.{ℕ, ◌+◌, ◌*◌, ◌<◌, ◌≡◌, ◌⊎◌, Bool, true, false}
use Rattle.chart.specs.declared.Point.{Point}

-- x lies in the triangle of p, q and t: it is their mean with natural weights that are not all zero. Borders and flat triangles count
pub record InTriangle (x p q t : Point) : Type 0 where
  pub a : ℕ
  pub b : ℕ
  pub c : ℕ
  pub above_zero : 0 < a + b + c
  pub cols : (a + b + c) * x.col ≡ a * p.col + b * q.col + c * t.col
  pub rows : (a + b + c) * x.row ≡ a * p.row + b * q.row + c * t.row

-- x lies in the triangle of some three cells of the set, which need not differ
pub record InHull (marked : ℕ → ℕ → Bool) (x : Point) : Type 0 where
  pub p : Point
  pub q : Point
  pub t : Point
  pub p_marked : marked p.col p.row ≡ true
  pub q_marked : marked q.col q.row ≡ true
  pub t_marked : marked t.col t.row ≡ true
  pub triangle : InTriangle x p q t

-- A missing cell lies in the hull and not in the set
pub record Missing (marked : ℕ → ℕ → Bool) (x : Point) : Type 0 where
  pub hull : InHull marked x
  pub open_cell : marked x.col x.row ≡ false

-- No cell is missing: the set contains every cell of its hull
abbrev pub Convex : (ℕ → ℕ → Bool) → Type 0
Convex marked = (x : Point) → Missing marked x → ⊥

-- y lies in a higher row than x, or further right in the same row
unfoldable pub After : Point → Point → Type 0
After x y = (x.row < y.row) ⊎ ((x.row ≡ y.row) × (x.col < y.col))

pub record LowestMissing (marked : ℕ → ℕ → Bool) (x : Point) : Type 0 where
  pub missing : Missing marked x
  pub lowest : (y : Point) → Missing marked y → (y ≡ x) ⊎ After x y
