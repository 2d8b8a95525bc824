-- A comparison made both ways round: which list each of the two returns (contract 6.4).
use Rattle.std.specs.Prelude.{◌≡◌, List, [], ℤ}
use Rattle.std.specs.Borrow.{Bor}
use Rattle.chart.specs.declared.Nesting.{Nesting}
use Rattle.chart.specs.declared.Nesting.TheVariants.{Equal, FirstWithin, SecondWithin, Apart, Crossing}

-- Equal hulls: each returns the list given first. One within the other: both return the inner one's. Otherwise: both are empty
abbrev pub ReturnedBoth : Nesting → (list again first second : Bor (List ℤ)) → Type 0
ReturnedBoth Equal list again first second = (list ≡ first) × (again ≡ second)
ReturnedBoth FirstWithin list again first second = (list ≡ first) × (again ≡ first)
ReturnedBoth SecondWithin list again first second = (list ≡ second) × (again ≡ second)
ReturnedBoth Apart list again first second = (list.now ≡ []) × (again.now ≡ [])
ReturnedBoth Crossing list again first second = (list.now ≡ []) × (again.now ≡ [])
