-- The calls on a pile (contract 12.4 to 12.6 and 13.11).
use Rattle.std.specs.Prelude.{ℕ, List}
use Rattle.chart.specs.declared.Point.{Point}
use Rattle.chart.specs.Outline.{Outline}

pub data PileCall : Type 0 where
  Set : ℕ → Outline → PileCall
  SetEmpty : ℕ → PileCall
  Check : PileCall
  Query : ℕ → Point → PileCall
  -- bytes to a layer
  Restore : ℕ → List ℕ → PileCall
