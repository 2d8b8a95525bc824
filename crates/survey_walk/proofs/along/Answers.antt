-- The loop ends at the first letter that leaves the chart, or at the first corner met again.
use Rattle.std.proofs.Common.{sym, ◌∙◌, arith}
use Rattle.lattice.proofs.Staying.{start-on-chart}
use Rattle.survey_walk.specs.parts.Walks.{WalkedAs}
use Rattle.survey_walk.proofs.CheckLaws.{counted-short}
use Rattle.survey_walk.proofs.AlongLaws.{along-start, along-meets, along-leaves, along-next, along-round}
use Rattle.survey_walk.proofs.along.Goals as goal

pub col_number-by_col-requires : goal.col_number-by_col-requires
col_number-by_col-requires c = let h = start-on-chart _ c.requires.started in (h.col, h.row)

pub row_number-by_row-requires : goal.row_number-by_row-requires
row_number-by_row-requires c = let h = start-on-chart _ c.requires.started in (h.col, h.row)

pub overflow_cast-i-end : goal.overflow_cast-i-end
overflow_cast-i-end c = omega (arith, counted-short _ c.requires.counted)

pub loop-i-init : goal.loop-i-init
loop-i-init c = rw c.none-met.ensures (along-start _ c.requires c.col_number-by_col.ensures c.row_number-by_row.ensures)

pub returns-then-mark : goal.returns-then-mark
unfolding WalkedAs
returns-then-mark c =
    along-meets _ c.requires c.loop-i.invariant c.loop-i-test.true (sym c.mark.ensures.before ∙ c.if-mark.true)

pub returns-then-is_off_chart : goal.returns-then-is_off_chart
unfolding WalkedAs
returns-then-is_off_chart c =
    along-leaves _ c.requires c.loop-i.invariant c.loop-i-test.true c.stride-step.ensures.0
    (sym c.is_off_chart.ensures ∙ c.if-is_off_chart.true)

pub loop-i-preserved : goal.loop-i-preserved
loop-i-preserved c =
    rw (c.min-west.ensures, c.min-north.ensures, c.max-east.ensures, c.max-south.ensures, c.mark.ensures.after)
    (along-next _ c.requires c.loop-i.invariant c.loop-i-test.true c.stride-step.ensures.0
    (sym c.mark.ensures.before ∙ c.if-mark.false) c.stride-step.ensures.1 (sym c.is_off_chart.ensures ∙ c.if-is_off_chart.false))

pub returns : goal.returns
unfolding WalkedAs
returns c = along-round _ c.requires c.loop-i.invariant c.loop-i-test.false c.corners_from.ensures
