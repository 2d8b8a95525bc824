-- If no letter leaves the chart and the walk is closed, the letter that led to the corner met again is refused.
use Rattle.std.proofs.Common.{arith}
use Rattle.survey_walk.proofs.CheckLaws.{counted-short}
use Rattle.survey.proofs.SurveyLaws.{walk-touches}
use Rattle.survey.proofs.touched.Goals as goal

pub closes-requires : goal.closes-requires
closes-requires c = (c.requires.0, c.requires.1.out)

pub overflow_cast-result : goal.overflow_cast-result
overflow_cast-result c = omega (arith, counted-short _ c.requires.0.counted, c.requires.1.below)

pub returns : goal.returns
returns c =
    let done = c.in_ok-closes.ensures.closed in
    let met = c.requires.1 in
    walk-touches _ c.requires.0 done.0 done.1 met.place (omega (arith, met.above_zero, met.below))
