-- The entries passed are those of the mirror image, and the others are still the right ends.
use Rattle.std.proofs.Common.{◌≡◌, ℕ, ◌-◌, ◌<◌, ◌≤◌}
use Rattle.chart.specs.Limits.{side}
use Rattle.rows.specs.parts.Rows.{rows}
use Rattle.rows.proofs.mirrored.Given as goal

abbrev pub invariant-loop-end : goal.invariant-loop-end
invariant-loop-end l =
    ((k : ℕ) → k < l.end-index → rows l.end-items k ≡ side - rows l.hi k) × ((k : ℕ) → l.end-index ≤ k → rows l.end-items k ≡ rows l.hi k)
