-- The search from row `i` finds the same cell as the search from row `b`. It ends because each edge ends in a higher row.
use Rattle.std.proofs.Common.{◌≡◌, ◌-◌, ◌≤◌}
use Rattle.rows.specs.Search.{chain}
use Rattle.rows.specs.parts.Rows.{rows}
use Rattle.rows.proofs.chain.Given as goal

abbrev pub invariant-loop-i : goal.invariant-loop-i
invariant-loop-i l = (l.b ≤ l.i) × (l.i ≤ l.t) × (chain (rows l.lo) l.t l.b (l.t - l.b) ≡ chain (rows l.lo) l.t l.i (l.t - l.i))

abbrev pub decreases-loop-i : goal.decreases-loop-i
decreases-loop-i l = l.t - l.i
