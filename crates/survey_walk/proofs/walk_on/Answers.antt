-- While no letter leaves the chart, the number is that of the current corner.
use Rattle.std.proofs.Common.{sym, ◌∙◌}
use Rattle.survey_walk.proofs.WalkLaws.{further-next, further-leaves, further-end}
use Rattle.survey_walk.proofs.walk_on.Goals as goal

pub returns-then-is_off_chart : goal.returns-then-is_off_chart
returns-then-is_off_chart c =
    further-leaves c.loop-place.invariant c.loop-place-test.true c.stride-by_col.ensures.0
    (sym c.is_off_chart.ensures ∙ c.if-is_off_chart.true)

pub loop-place-preserved : goal.loop-place-preserved
loop-place-preserved c =
    further-next c.loop-place.invariant c.loop-place-test.true c.stride-by_col.ensures.0
    (sym c.is_off_chart.ensures ∙ c.if-is_off_chart.false)

pub returns : goal.returns
returns c = further-end c.loop-place.invariant c.loop-place-test.false
