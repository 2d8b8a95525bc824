-- After the layers up to k the fold has made as many steps.
use Prim.Native.Nat.{suc, ◌+◌, ◌-◌}
use mathlib.Core.Path.{◌≡◌}
use Rattle.sections.specs.Sections.{numbers, Bounded, fold, joined}
use Rattle.sections.proofs.Section.joined_from.Given as goal

abbrev pub invariant-loop-k : goal.invariant-loop-k
invariant-loop-k l =
    (l.reach ≡ fold (λ n. joined (numbers l.self.lo) (numbers l.self.past) l.i l.j (suc l.j + n)) (l.k - suc l.j) l.initial.reach)
    × Bounded l.reach
