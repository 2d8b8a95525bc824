-- The invariant is the form of the letters read, with its two counts; each exit of the loop determines the first factor.
use Prim.Native.Nat.{◌-◌}
use lib.ListN.{length}
use Rattle.words.proofs.FirstFactor.{Search}
use Rattle.words.proofs.first_factor.Given as goal

abbrev pub invariant-loop-j : goal.invariant-loop-j
invariant-loop-j l = Search l.w l.from l.later l.i l.j l.read l.laters

abbrev pub decreases-loop-j : goal.decreases-loop-j
decreases-loop-j l = length l.w - l.j
