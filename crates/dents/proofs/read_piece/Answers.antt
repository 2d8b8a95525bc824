-- The part from one place further on is the piece without its first letter; a piece without a letter has no edge.
use native.Mathlib.Omega.{arith}
use Rattle.dents.proofs.DentLaws.{piece-edges, piece-dent, piece-none}
use Rattle.dents.proofs.read_piece.Goals.{else-from-to-via-then-from-to+else-to-ring, else-from-to-via-else-from-to}
use Rattle.dents.proofs.read_piece.Goals as goal

pub returns-in-Ok-clause-read : goal.returns-in-Ok-clause-read
returns-in-Ok-clause-read c = piece-edges c.if-from-to.true c.in-Ok.ensures.read

pub returns-in-Err-clause-read : goal.returns-in-Err-clause-read
returns-in-Err-clause-read c = piece-dent c.if-from-to.true c.if-to-ring.true c.in-Err.ensures.read

pub returns-else-to-first-lt-LONGEST-clause-read : goal.returns-else-to-first-lt-LONGEST-clause-read
returns-else-to-first-lt-LONGEST-clause-read c = piece-none (λ l h. c.if-to-first-lt-LONGEST.false)

pub returns-else-from-to-clause-read : goal.returns-else-from-to-clause-read
returns-else-from-to-clause-read c =
    piece-none
    (λ l h.
    elim c.else-from-to.branch [
      | else-from-to-via-then-from-to+else-to-ring w ↦ absurd (omega arith)
      | else-from-to-via-else-from-to w ↦ absurd (omega arith)
    ])
