-- The walk's answer for the remaining edges is its answer for all of them, and its numbers are small.
use Rattle.readings.specs.parts.Walk.{begun}
use Rattle.readings.proofs.Walks.{Walked}
use Rattle.readings.proofs.locate.Given as goal

abbrev pub invariant-loop-dx : goal.invariant-loop-dx
invariant-loop-dx l = Walked l.edges l.reading (begun l.fn.anchor) l.at l.dx-index
