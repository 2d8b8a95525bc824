-- What is left to do has the outcome of the whole, and the rows with cells serve as long as columns are left.
use Prim.Native.Nat.{◌-◌, ◌<◌}
use mathlib.Core.Path.{◌≡◌}
use lib.ListN.{get_or}
use Rattle.chart.specs.Limits.{side}
use Rattle.live_sections.specs.Layers.{layers_of}
use Rattle.live_sections.specs.parts.Reach.{reach_of}
use Rattle.pile_calls.specs.Arrays.{arrays}
use Rattle.pile_calls.specs.Steps.{tested_at, steps_of}
use Rattle.pile_calls.proofs.check_steps.Given as goal

abbrev pub invariant-loop-made : goal.invariant-loop-made
invariant-loop-made l = (steps_of (l.count - l._made) (arrays l.rows l.state) ≡ steps_of l.count (arrays l.rows l.initial.state))
    × (tested_at (get_or l.state 1 0) < side → l.reach ≡ reach_of (layers_of l.rows))
