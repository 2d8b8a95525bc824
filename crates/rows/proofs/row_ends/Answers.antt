-- Loop invariant: the columns kept so far, updated by the remaining letters, are the ends of the rows.
use Rattle.std.proofs.Common.{◌+◌, ◌%◌, refl, arith}
use Rattle.chart.specs.Outline.{outline}
use Rattle.rows.specs.Search.{numbered}
use Rattle.rows.proofs.RowLaws.{wrapped_sum, marks-start, marks-next, marks-end}
use Rattle.rows.proofs.row_ends.Goals as goal

pub loop-letter-init : goal.loop-letter-init
loop-letter-init c = marks-start (numbered c.args.s) c.args.w.now

pub mark_up-requires : goal.mark_up-requires
mark_up-requires c = c.loop-letter.invariant.ups.size

pub mark_down-requires : goal.mark_down-requires
mark_down-requires c = c.loop-letter.invariant.downs.size

pub loop-letter-preserved : goal.loop-letter-preserved
loop-letter-preserved c =
    let iteration = c.loop-letter in
    let args = c.args in
    let up = c.mark_up in
    let down = c.mark_down in
    marks-next
    (numbered args.s)
    args.w.now
    iteration.letter-index
    iteration.number
    ((iteration.number + c.stride.result) % 65536)
    iteration.lo
    iteration.hi
    up.new.lo
    down.new.hi
    (omega arith)
    up.ensures
    down.ensures
    (wrapped_sum iteration.number _ c.stride.result _ c.stride.ensures refl)
    iteration.invariant

pub returns : goal.returns
returns c =
    let args = c.args in
    let iteration = c.loop-letter in
    marks-end (outline args.s args.w.now) iteration.letter-index iteration.number iteration.lo iteration.hi (omega arith)
    iteration.invariant
