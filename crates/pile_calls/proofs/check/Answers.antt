-- Columns are checked before rows, as in the definition.
use native.Mathlib.Omega.{arith}
use Rattle.pile_calls.specs.Arrays.{arrays}
use Rattle.pile_calls.proofs.Cases.{column-checks, row-checks, passing-checks}
use Rattle.pile_calls.proofs.check.Goals as goal

pub pass-requires : goal.pass-requires
pass-requires c = (omega arith, omega arith)

pub returns-then-col-lt-SIDE : goal.returns-then-col-lt-SIDE
returns-then-col-lt-SIDE c =
    let x = column-checks (arrays c.args.rows.now c.args.state.now) c.dented_column-col.result c.dented_column-col.ensures
    c.if-col-lt-SIDE.true (arrays c.args.rows.now c.fail.new.state) (c.fail.ensures c.args.rows.now) in
    record { answer = x.0; meaning = x.1 }

pub returns-then-row-lt-SIDE : goal.returns-then-row-lt-SIDE
returns-then-row-lt-SIDE c =
    let x = row-checks (arrays c.args.rows.now c.args.state.now) c.dented_column-col.result c.dented_column-col.ensures
    c.if-col-lt-SIDE.false (λ i. omega (arith, c.fits-rows i)) c.dented_row-row.result c.dented_row-row.ensures c.if-row-lt-SIDE.true
    (arrays c.args.rows.now c.fail-then-row-lt-SIDE.new.state) (c.fail-then-row-lt-SIDE.ensures c.args.rows.now) in
    record { answer = x.0; meaning = x.1 }

pub returns : goal.returns
returns c =
    let x = passing-checks (arrays c.args.rows.now c.args.state.now) c.dented_column-col.result c.dented_column-col.ensures
    c.if-col-lt-SIDE.false (λ i. omega (arith, c.fits-rows i)) c.dented_row-row.result c.dented_row-row.ensures c.if-row-lt-SIDE.false
    c.pass.new.state c.pass.ensures in
    record { answer = x.0; meaning = x.1 }
