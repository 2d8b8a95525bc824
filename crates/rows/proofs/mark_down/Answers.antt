-- At most one row has the letter as a down along it, and the function stores at that row.
use Rattle.std.proofs.Common.{◌-◌, ◌%◌, arith}
use Rattle.lattice.specs.Enclosed.{down_along}
use Rattle.rows.specs.Search.{corner_numbered}
use Rattle.rows.proofs.RowLaws.{down-along, along-down, marked-set, marked-none}
use Rattle.rows.proofs.mark_down.Goals.{else-letter-eq3-via-then-letter-eq3+else-row-gt0, else-letter-eq3-via-else-letter-eq3}
use Rattle.rows.proofs.mark_down.Goals as goal

pub returns-then-row-gt0 : goal.returns-then-row-gt0
returns-then-row-gt0 c =
    let args = c.args in
    marked-set
    (down_along (corner_numbered args.number) args.letter)
    (args.number % 256)
    args.hi.now
    (omega arith)
    (c.from-row.result - 1)
    (omega arith)
    (along-down (corner_numbered args.number) args.letter (c.from-row.result - 1) (omega arith)
    (omega arith))
    (λ r e. omega (arith, down-along (corner_numbered args.number) args.letter r e))

pub returns-else-letter-eq3 : goal.returns-else-letter-eq3
returns-else-letter-eq3 c =
    let args = c.args in
    marked-none (down_along (corner_numbered args.number) args.letter) (args.number % 256) args.hi.now (omega arith) λ r e.
    let (letter, row) = down-along (corner_numbered args.number) args.letter r e in
    elim c.else-letter-eq3.branch [
      | else-letter-eq3-via-then-letter-eq3+else-row-gt0 w ↦ omega arith
      | else-letter-eq3-via-else-letter-eq3 w ↦ w.if-letter-eq3.false letter
    ]
