-- The letter steps up, down, or along no row.
use Rattle.std.proofs.Common.{arith}
use Rattle.row_sides.proofs.Laws.{tells-up, tells-down, tells_none}
use Rattle.row_sides.proofs.along.Goals as goal
use Rattle.row_sides.proofs.along.Goals.{else-letter-eq3-via-then-letter-eq3+else-row-gt0, else-letter-eq3-via-else-letter-eq3}

pub returns-then-letter-eq1 : goal.returns-then-letter-eq1
returns-then-letter-eq1 c = let args = c.args in rw c.from.ensures (tells-up args.row args.letter (omega arith) (omega arith))

pub returns-then-row-gt0 : goal.returns-then-row-gt0
returns-then-row-gt0 c =
    let args = c.args in
    rw c.from-then-row-gt0.ensures (tells-down args.row args.letter (omega arith) (omega arith) (omega arith))

pub returns : goal.returns
returns c =
    let args = c.args in
    tells_none args.row args.letter c.if-letter-eq1.false (λ e l.
    elim c.else-letter-eq3.branch [
      | else-letter-eq3-via-then-letter-eq3+else-row-gt0 w ↦ omega (arith, w.if-row-gt0.false)
      | else-letter-eq3-via-else-letter-eq3 w ↦ w.if-letter-eq3.false e
    ])
