-- The right side is the left side of the mirror image, so the same search finds the gaps on both sides.
use Rattle.std.proofs.Common.{arith}
use Rattle.rows.specs.parts.Rows.{rows}
use Rattle.rows.proofs.SearchLaws.{lowest_gap-left, lowest_gap-right}
use Rattle.rows.proofs.lowest_gap.Goals as goal

pub returns-then-left-right : goal.returns-then-left-right
returns-then-left-right c =
    let args = c.args in
    let left = c.chain-left in
    let mirror = c.mirrored in
    let right = c.chain-right in
    lowest_gap-left
    (rows args.ends.now.lo)
    (rows args.ends.now.hi)
    (rows mirror.result)
    args.b
    args.t
    left.result
    right.result
    (λ r h. mirror.ensures r (omega arith))
    left.ensures.0
    right.ensures.0
    (omega arith)

pub returns : goal.returns
returns c = rw c.from-row.ensures (
    let args = c.args in
    let left = c.chain-left in
    let mirror = c.mirrored in
    let right = c.chain-right in
    lowest_gap-right
    (rows args.ends.now.lo)
    (rows args.ends.now.hi)
    (rows mirror.result)
    args.b
    args.t
    left.result
    right.result
    (λ r h. mirror.ensures r (omega arith))
    left.ensures.0
    right.ensures.0
    (omega arith))
