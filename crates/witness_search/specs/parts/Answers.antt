-- What the pass over the rows finds.
use Rattle.std.specs.Prelude.{ℕ, ◌≤◌, ◌<◌, ◌≡◌, true, false, cond, ltb, Option, Some, None}
use Rattle.chart.specs.declared.Point.{Point}
use Rattle.chart.specs.Outline.{Outline}
use Rattle.witness_search.specs.declared.Shown.{Shown}
use Rattle.witness.specs.Three.{Three, first_in, last_in, three_for}
use Rattle.witness.specs.Gap.{lowest_row, lowest_open, is_missing, lowest_missing, witness_of}

-- The three cells for column c of row r, from the rows where the current left and right edges start and end
unfoldable pub three_by : (ℕ → ℕ) → (ℕ → ℕ) → ℕ → ℕ → ℕ → ℕ → ℕ → ℕ → Three
three_by lo hi i j k n c r =
    cond (ltb c (lo r)) (record { a = first_in lo hi 0 0 i; b = first_in lo hi 0 0 j; d = first_in lo hi 0 0 r })
    (cond (ltb c (hi r)) (record { a = first_in lo hi 0 0 r; b = last_in lo hi 0 0 r; d = last_in lo hi 0 0 r })
    (record { a = last_in lo hi 0 0 k; b = last_in lo hi 0 0 n; d = last_in lo hi 0 0 r }))

pub record Shows (lo hi : ℕ → ℕ) (i j k n c r : ℕ) (cell a b d : Point) : Type 0 where
  pub is_cell : cell ≡ record { col = c; row = r }
  pub three : three_by lo hi i j k n c r ≡ record { a = a; b = b; d = d }

-- The lowest missing cell of rows b to t - 1 and its three cells
pub record Lowest (lo en hi : ℕ → ℕ) (b t : ℕ) (s : Shown) : Type 0 where
  pub row : lowest_row lo en hi b t < t
  pub lowest : s.cell ≡ lowest_open lo en hi b t
  pub three : three_for lo hi b t s.cell ≡ record { a = s.a; b = s.b; d = s.d }

-- For rows b to t - 1: these cells, or none if no cell is missing
abbrev pub Answers : (ℕ → ℕ) → (ℕ → ℕ) → (ℕ → ℕ) → ℕ → ℕ → Option Shown → Type 0
Answers lo en hi b t None = t ≤ lowest_row lo en hi b t
Answers lo en hi b t (Some s) = Lowest lo en hi b t s

-- The lowest missing cell of an outline and its three cells
pub record Missing (o : Outline) (s : Shown) : Type 0 where
  pub missing : is_missing o ≡ true
  pub lowest : s.cell ≡ lowest_missing o
  pub three : witness_of o ≡ record { a = s.a; b = s.b; d = s.d }

-- For an outline: these cells, or none if no cell is missing
abbrev pub Finds : Outline → Option Shown → Type 0
Finds o None = is_missing o ≡ false
Finds o (Some s) = Missing o s
