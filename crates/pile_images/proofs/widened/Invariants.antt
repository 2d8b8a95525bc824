-- The columns before k are copied, and the rest is zero.
use Prim.Native.Nat.{ℕ, ◌≤◌, ◌<◌}
use mathlib.Core.Path.{◌≡◌}
use lib.ListN.{length}
use Rattle.chart.specs.Limits.{corners}
use Rattle.rows.specs.parts.Rows.{rows}
use Rattle.pile_images.proofs.widened.Given as goal

abbrev pub invariant-loop-k : goal.invariant-loop-k
invariant-loop-k l =
    (length l.wide ≡ corners) × ((m : ℕ) → m < l.k → rows l.wide m ≡ rows l.part m) × ((m : ℕ) → l.k ≤ m → rows l.wide m ≡ 0)
