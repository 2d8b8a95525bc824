-- The laws of decimal numbers say in which order the digits stand.
use Prim.Native.Nat.{◌≤◌}
use native.Mathlib.Omega.{arith}
use Rattle.text_lines.proofs.TextLaws.{decimal-small, decimal-large}
use Rattle.text_lines.proofs.WrittenLaws.{wrote-behind}
use Rattle.text_lines.proofs.+put_number.Goals as goal

pub returns-then-n-lt10 : goal.returns-then-n-lt10
returns-then-n-lt10 t c = rw (decimal-small c.args.n c.if-n-lt10.true) c.put.ensures

pub returns : goal.returns
returns t c =
    let large : 10 ≤ c.args.n = omega (arith, c.if-n-lt10.false) in
    rw (decimal-large c.args.n large) (wrote-behind c.put_number-end.ensures c.put-2.ensures)
