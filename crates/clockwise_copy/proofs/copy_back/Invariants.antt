-- After i rounds of the loop the first i letters of the walk backward are in the part.
use Prim.Native.Nat.{ℕ, ◌<◌}
use mathlib.Core.Path.{◌≡◌}
use lib.ListN.{get_or}
use Rattle.convexity.specs.Clockwise.{backward}
use Rattle.clockwise_copy.proofs.copy_back.Given as goal

abbrev pub invariant-loop-i : goal.invariant-loop-i
invariant-loop-i l = (k : ℕ) → k < l.i → get_or l.part k 0 ≡ get_or (backward l.list) k 0
