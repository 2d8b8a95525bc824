-- No section so far is dented, and the one before is convex.
use Prim.Native.Nat.{ℕ, ◌<◌}
use mathlib.Core.Path.{◌≡◌}
use mathlib.Core.Bool.{Bool, true, not}
use Rattle.base.specs.Below.{first}
use Rattle.chart.specs.Limits.{side}
use Rattle.sections.specs.declared.Section.{Section}
use Rattle.live_sections.specs.parts.Reach.{clear_of}
use Rattle.live_sections.proofs.first_dented.Given as goal

abbrev pub invariant-loop-n : goal.invariant-loop-n
invariant-loop-n g l =
    (clear_of l.last ≡ true)
    × ((dented : ℕ → Bool) → ((n : ℕ) (s : Section) → n < side → goal.F-post g l.section n s → dented n ≡ not (clear_of s))
    → first dented l.n ≡ l.n)
