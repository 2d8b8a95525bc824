-- No row so far has a cell.
use mathlib.Core.Path.{◌≡◌}
use Rattle.base.specs.Below.{first}
use Rattle.live_sections.specs.parts.Reach.{has_cell}
use Rattle.live_sections.proofs.Layer.bottom.Given as goal

abbrev pub invariant-loop-r : goal.invariant-loop-r
invariant-loop-r l = first (λ k. has_cell l.self.first.now l.self.past.now k) l.r ≡ l.r
