-- An outline: a start corner and a list of letters (contract 1.4).
use Rattle.std.specs.Prelude.{ℕ, List}
use Rattle.chart.specs.declared.Point.{Point}

-- A corner or a cell from its two numbers
abbrev pub at : ℕ → ℕ → Point
at c r = record { col = c; row = r }

pub record Outline : Type 0 where
  pub start : Point
  pub letters : List ℕ

abbrev pub outline : Point → List ℕ → Outline
outline s w = record { start = s; letters = w }
