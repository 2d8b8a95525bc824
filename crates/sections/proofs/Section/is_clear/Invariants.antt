-- Every layer so far is whole.
use mathlib.Core.Path.{◌≡◌}
use mathlib.Core.Bool.{true}
use Rattle.base.specs.Below.{every}
use Rattle.sections.specs.Sections.{numbers, whole}
use Rattle.sections.proofs.Section.is_clear.Given as goal

abbrev pub invariant-loop-j : goal.invariant-loop-j
invariant-loop-j l = every (whole (numbers l.self.lo) (numbers l.self.past)) l.j ≡ true
