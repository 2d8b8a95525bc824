-- The wanted command is as many positions further as are left to count.
use Rattle.std.proofs.Common.{◌*◌, ◌-◌, ◌≤◌, max}
use Rattle.convexity.specs.Edges.{pairs}
use Rattle.edge_walk.specs.parts.Walk.{started}
use Rattle.drawing.proofs.Walks.{stroke_from, Walked}
use Rattle.drawing.proofs.stroke_at.Given as goal

abbrev pub invariant-loop-i : goal.invariant-loop-i
invariant-loop-i l =
    (l.i ≤ max l.count 1) × (l.i ≤ l.wanted)
    × Walked l.edges (stroke_from (pairs l.edges) (started l.fn.anchor) (l.wanted - 1)) l.at (l.wanted - l.i) (2 * l.i - 2)
