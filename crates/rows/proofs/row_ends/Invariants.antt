-- Loop invariant: the columns kept so far, updated by the remaining letters, are the ends of the rows.
use Rattle.rows.proofs.RowLaws.{Marks}
use Rattle.rows.proofs.row_ends.Given as goal

abbrev pub invariant-loop-letter : goal.invariant-loop-letter
invariant-loop-letter l = Marks l.initial.number l.w l.letter-index l.number l.lo l.hi
