-- The invariant is the remainder after the letters passed; a letter that fails, or an early 0, decides the answer.
use Rattle.words.proofs.RemainderWalk.{Walked}
use Rattle.words.proofs.follows_remainders.Given as goal

abbrev pub invariant-loop-i : goal.invariant-loop-i
invariant-loop-i l = Walked l.w l.later l.k l.i l.rem
