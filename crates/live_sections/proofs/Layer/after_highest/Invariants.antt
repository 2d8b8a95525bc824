-- No row so far, from the highest down, has the column.
use Prim.Native.Nat.{◌-◌}
use mathlib.Core.Path.{◌≡◌}
use Rattle.base.specs.Below.{first}
use Rattle.chart.specs.Limits.{side}
use Rattle.pile_sections.specs.Sections.{in_row}
use Rattle.live_sections.proofs.Layer.after_highest.Given as goal

abbrev pub invariant-loop-r : goal.invariant-loop-r
invariant-loop-r l =
    first (λ i. in_row l.self.first.now l.self.past.now l.col (side - 1 - i)) (side - l.r) ≡ side - l.r
