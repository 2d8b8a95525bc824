-- No row so far, from the highest down, has a cell.
use Prim.Native.Nat.{◌-◌}
use mathlib.Core.Path.{◌≡◌}
use Rattle.base.specs.Below.{first}
use Rattle.chart.specs.Limits.{side}
use Rattle.live_sections.specs.parts.Reach.{has_cell}
use Rattle.live_sections.proofs.Layer.top.Given as goal

abbrev pub invariant-loop-r : goal.invariant-loop-r
invariant-loop-r l =
    first (λ i. has_cell l.self.first.now l.self.past.now (side - 1 - i)) (side - l.r) ≡ side - l.r
