-- No piece passed has a dent, their edges are in the list in order, and the search stops at the first dent.
use mathlib.Core.Path.{◌≡◌}
use Rattle.dents.proofs.DentLaws.{Passed}
use Rattle.dents.proofs.read.Given as goal

abbrev pub invariant-loop-k : goal.invariant-loop-k
invariant-loop-k l =
    record {
      same_reference : l.edges.list.ghost_name ≡ l.initial.edges.list.ghost_name;
      passed : Passed l.ring l.at l.initial.edges.list.now l.edges.list.now l.edges.count l.k;
    }
