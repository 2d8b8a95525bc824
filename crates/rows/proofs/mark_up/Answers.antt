-- At most one row has the letter as an up along it, and the function stores at that row.
use Rattle.std.proofs.Common.{◌%◌, arith}
use Rattle.lattice.specs.Enclosed.{up_along}
use Rattle.rows.specs.Search.{corner_numbered}
use Rattle.rows.proofs.RowLaws.{up-along, along-up, marked-set, marked-none}
use Rattle.rows.proofs.mark_up.Goals as goal

pub returns-then-letter-eq1 : goal.returns-then-letter-eq1
returns-then-letter-eq1 c =
    let args = c.args in
    marked-set
    (up_along (corner_numbered args.number) args.letter)
    (args.number % 256)
    args.lo.now
    (omega arith)
    c.from-row.result
    (omega arith)
    (along-up (corner_numbered args.number) args.letter c.from-row.result (omega arith) (omega arith))
    (λ r e. omega (arith, up-along (corner_numbered args.number) args.letter r e))

pub returns-else-letter-eq1 : goal.returns-else-letter-eq1
returns-else-letter-eq1 c =
    let args = c.args in
    marked-none (up_along (corner_numbered args.number) args.letter) (args.number % 256) args.lo.now (omega arith) λ r e.
    c.if-letter-eq1.false (up-along (corner_numbered args.number) args.letter r e).0
