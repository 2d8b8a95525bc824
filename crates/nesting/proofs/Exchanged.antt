-- With the polygons exchanged, the same two tests and the same rows decide, and the two "within" change places.
use native.Mathlib.Nat.{min_comm, max_comm}
use mathlib.Core.Path.{◌≡◌, refl, ap, ◌∙◌}
use mathlib.Core.Bool.{Bool, true, false}
use lib.Dec.{ltb}
use Rattle.chart.specs.Limits.{side}
use Rattle.base.specs.Below.{some_below}
use Rattle.nesting.specs.Cells.{Polygon}
use Rattle.nesting.specs.Rows.{run_from, run_to, row_meets, rows_meet}
use Rattle.nesting.specs.Answer.{by_tests, lies_within, nesting, exchanged}

tests-exchanged : (s t m : Bool) → by_tests t s m ≡ exchanged (by_tests s t m)
unfolding by_tests exchanged
tests-exchanged true true m = refl
tests-exchanged true false m = refl
tests-exchanged false true m = refl
tests-exchanged false false true = refl
tests-exchanged false false false = refl

rows-exchanged : (p q : Polygon) → rows_meet q p ≡ rows_meet p q
unfolding rows_meet row_meets
rows-exchanged p q =
    λ i. some_below (λ r. ltb (max_comm (run_from q r) (run_from p r) i) (min_comm (run_to q r) (run_to p r) i)) side

pub nesting-exchanged : (p q : Polygon) → nesting q p ≡ exchanged (nesting p q)
unfolding nesting
nesting-exchanged p q = ap (by_tests (lies_within q p) (lies_within p q)) (rows-exchanged p q)
    ∙ tests-exchanged (lies_within p q) (lies_within q p) (rows_meet p q)
