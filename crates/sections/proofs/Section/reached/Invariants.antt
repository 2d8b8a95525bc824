-- After the layers before i the fold has made i steps.
use mathlib.Core.Path.{◌≡◌}
use Rattle.sections.specs.Sections.{numbers, Bounded, fold, joined_from}
use Rattle.sections.proofs.Section.reached.Given as goal

abbrev pub invariant-loop-i : goal.invariant-loop-i
invariant-loop-i l =
    (l.reach ≡ fold (λ n. joined_from (numbers l.self.lo) (numbers l.self.past) n l.j) l.i l.initial.reach) × Bounded l.reach
