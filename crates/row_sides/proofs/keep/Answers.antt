-- The column is below the smallest, between the two, or neither.
use Rattle.std.proofs.Common.{inl, inr, arith}
use Rattle.row_sides.proofs.Laws.{keeps-least, keeps-second, keeps-neither}
use Rattle.row_sides.proofs.keep.Goals as goal
use Rattle.row_sides.proofs.keep.Goals.{else-one-c-via-then-one-c+else-c-two, else-one-c-via-else-one-c}

pub returns-then-c-one : goal.returns-then-c-one
returns-then-c-one c = let args = c.args in keeps-least args.c args.one args.two (omega arith)

pub returns-then-c-two : goal.returns-then-c-two
returns-then-c-two c = let args = c.args in
    keeps-second args.c args.one args.two (omega arith) (omega arith)

pub returns : goal.returns
returns c =
    let args = c.args in
    keeps-neither args.c args.one args.two (omega arith)
    (elim c.else-one-c.branch [
      | else-one-c-via-then-one-c+else-c-two w ↦ inr w.if-c-two.false
      | else-one-c-via-else-one-c w ↦ inl w.if-one-c.false
    ])
