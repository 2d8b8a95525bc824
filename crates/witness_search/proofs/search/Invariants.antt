-- The current edges go across the current row, and no earlier row has a gap.
use Prim.Native.Nat.{ℕ, suc, ◌-◌, ◌<◌}
use mathlib.Core.Path.{◌≡◌}
use Rattle.chart.specs.Limits.{side}
use Rattle.rows.specs.parts.Rows.{rows}
use Rattle.witness_search.proofs.Laws.{Searching}
use Rattle.witness_search.proofs.search.Given as goal

abbrev pub invariant-loop-r : goal.invariant-loop-r
invariant-loop-r l =
    (two : suc l.b < l.t) × (mirrors : ((s : ℕ) → s < l.t → rows l.m s ≡ side - rows l.sides.hi s))
    × Searching (rows l.sides.lo) (rows l.sides.en) (rows l.sides.hi) (rows l.m) l.b l.t two mirrors l.i l.k l.r
