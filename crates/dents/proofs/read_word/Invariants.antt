-- Each round of the loop passes one factor that is a Christoffel word and puts its edge behind the others.
use Prim.Native.Nat.{◌-◌}
use mathlib.Core.Path.{◌≡◌}
use lib.ListN.{length}
use Rattle.dents.proofs.WordLaws.{Tracing}
use Rattle.dents.proofs.read_word.Given as goal

abbrev pub invariant-loop-f : goal.invariant-loop-f
invariant-loop-f l =
    record {
      same_reference : l.edges.list.ghost_name ≡ l.initial.edges.list.ghost_name;
      tracing : Tracing l.k l.letters l.initial.edges.count l.initial.edges.list.now l.edges.list.now l.edges.count l.at;
    }

abbrev pub decreases-loop-f : goal.decreases-loop-f
decreases-loop-f l = length l.letters - l.at
