-- What refusals 1 to 6 leave: closed walks on the chart that meet no corner twice (contract 2 and 3 are about these).
use Rattle.std.specs.Prelude.{ℕ, ◌≤◌, ◌<◌, ◌≡◌, false}
use Rattle.chart.specs.Limits.{side, longest, shortest}
use Rattle.chart.specs.Outline.{Outline}
use Rattle.lattice.specs.Chart.{leaves, corner_at, size, Closed, letter_at}

-- No letter steps off the chart
abbrev pub NeverLeaves : Outline → Type 0
NeverLeaves o = (i : ℕ) → i < size o → leaves (corner_at o i) (letter_at o i) ≡ false

-- Facts about the letters and corners of an outline that passes refusals 1 to 6
pub record Walked (o : Outline) : Type 0 where
  pub long : shortest ≤ size o
  pub short : size o ≤ longest
  pub letter : (i : ℕ) → i < size o → letter_at o i < 4
  pub col_le : (i : ℕ) → i ≤ size o → (corner_at o i).col ≤ side
  pub row_le : (i : ℕ) → i ≤ size o → (corner_at o i).row ≤ side
  pub stays : NeverLeaves o
  pub closed : Closed o
  pub distinct : (i j : ℕ) → i < j → j < size o → corner_at o i ≡ corner_at o j → ⊥
