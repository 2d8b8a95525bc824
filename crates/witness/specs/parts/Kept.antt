-- What one pass over the letters keeps of row r: the two smallest different columns of its sides.
use Rattle.std.specs.Prelude.{ℕ, cond, ◌&&◌, List, [], ◌∷◌, ltb}
use Rattle.chart.specs.declared.Point.{Point}
use Rattle.lattice.specs.Chart.{step}
use Rattle.completion.specs.Sides.{along_row}

pub record Two : Type 0 where
  pub one : ℕ
  pub two : ℕ

-- The pair after one more side, at column c
unfoldable pub keep_two : ℕ → Two → Two
keep_two c k =
    cond (ltb c k.one) (record { one = c; two = k.one }) (cond (ltb k.one c && ltb c k.two) (record { one = k.one; two = c }) k)

unfoldable pub kept_two : ℕ → Point → List ℕ → Two → Two
kept_two r p [] k = k
kept_two r p (a ∷ w) k = kept_two r (step p a) w (cond (along_row r p a) (keep_two p.col k) k)
