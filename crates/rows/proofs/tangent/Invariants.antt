-- Loop invariant: seen from row `i`, row `j` is the furthest left of the rows up to it. `b` is its column, and `k` is its entry in `next`.
use Rattle.std.proofs.Common.{◌≡◌, suc, ◌-◌, ◌<◌}
use Rattle.rows.specs.parts.Rows.{rows}
use Rattle.rows.proofs.Side.{Furthest}
use Rattle.rows.proofs.tangent.Given as goal

abbrev pub invariant-loop-j : goal.invariant-loop-j
invariant-loop-j l = (l.i < l.j) × (l.j < l.t) × (l.b ≡ rows l.lo l.j) × (l.b < 65536) × (l.k ≡ rows l.next l.j) × Furthest (rows l.lo) l.i l.j (suc l.j)

abbrev pub decreases-loop-j : goal.decreases-loop-j
decreases-loop-j l = l.t - l.j
