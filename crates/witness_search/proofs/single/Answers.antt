-- There is a gap within the row, or none.
use native.Mathlib.Omega.{arith}
use Rattle.rows.specs.parts.Rows.{rows}
use Rattle.witness_search.proofs.Outline.{single-none, single-found}
use Rattle.witness_search.proofs.single.Goals as goal

pub returns-then-c-sides : goal.returns-then-c-sides
returns-then-c-sides c =
    let k = c.args.sides.now in
    let shown = rw c.from-b.ensures at c.display.ensures in
    let gap = rw c.from-b.ensures at c.if-c-sides.true in
    single-found (rows k.lo) (rows k.en) (rows k.hi) k.low c.requires.1 c.requires.2 (omega (arith, gap))
    c.display.result shown

pub returns : goal.returns
returns c =
    let k = c.args.sides.now in
    let full = rw c.from-b.ensures at c.if-c-sides.false in
    single-none (rows k.lo) (rows k.en) (rows k.hi) k.low c.requires.1 c.requires.2 (omega (arith, full))
