-- No row so far has the column.
use mathlib.Core.Path.{◌≡◌}
use Rattle.base.specs.Below.{first}
use Rattle.pile_sections.specs.Sections.{in_row}
use Rattle.live_sections.proofs.Layer.lowest.Given as goal

abbrev pub invariant-loop-r : goal.invariant-loop-r
invariant-loop-r l = first (λ k. in_row l.self.first.now l.self.past.now l.col k) l.r ≡ l.r
