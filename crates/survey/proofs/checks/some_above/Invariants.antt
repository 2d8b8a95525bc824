-- Whether a letter so far is above 3.
use Rattle.std.proofs.Common.{◌≡◌, ℕ, Bool, get_or, nat_lt, List}
use Rattle.base.specs.Below.{some_below}
use Rattle.survey.proofs.checks.some_above.Given as goal

abbrev pub above : List ℕ → ℕ → Bool
above w i = nat_lt 3 (get_or w i 0)

abbrev pub invariant-loop-letter : goal.invariant-loop-letter
invariant-loop-letter l = l.found ≡ some_below (above l.w) l.letter-index
