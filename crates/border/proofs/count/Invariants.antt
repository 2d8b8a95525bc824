-- The count so far, plus what the remaining edges add, is constant.
use Rattle.std.proofs.Common.{◌≡◌, ◌+◌, ◌*◌, ◌≤◌, drop}
use Rattle.convexity.specs.Edges.{pairs}
use Rattle.convexity.specs.FromEdges.{step_count}
use Rattle.border.proofs.count.Given as goal

abbrev pub invariant-loop-dx : goal.invariant-loop-dx
invariant-loop-dx l =
    (l.letters + step_count (pairs (drop (2 * l.dx-index) l.edges)) ≡ 4 + step_count (pairs l.edges)) × (l.letters ≤ 4 + 65536 * l.dx-index)
