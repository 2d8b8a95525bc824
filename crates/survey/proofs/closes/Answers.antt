-- A letter leaves the chart, or the end of the walk decides.
use Rattle.std.proofs.Common.{sym, ◌∙◌, arith}
use Rattle.survey_walk.specs.parts.Walks.{RestOf}
use Rattle.survey_walk.proofs.CheckLaws.{counted-short}
use Rattle.survey.proofs.SurveyLaws.{walk-leaves, walk-unclosed, walk-closed}
use Rattle.survey.proofs.closes.Goals as goal

pub overflow_cast-result : goal.overflow_cast-result
unfolding RestOf
overflow_cast-result c =
    let rest = c.in-Err.ensures c.args.start c.requires.0 c.requires.1 in omega (arith, counted-short _ c.requires.0.counted, rest.0)

pub returns-in-Err : goal.returns-in-Err
unfolding RestOf
returns-in-Err c =
    let rest = c.in-Err.ensures c.args.start c.requires.0 c.requires.1 in
    record { refused = walk-leaves _ c.requires.0 rest.1 rest.0; closed = tt }

pub returns-then-ends_away : goal.returns-then-ends_away
unfolding RestOf
returns-then-ends_away c =
    let rest = c.in-Ok.ensures c.args.start c.requires.0 c.requires.1 in
    record { refused = walk-unclosed _ c.requires.0 rest.0 rest.1 (sym c.ends_away.ensures ∙ c.if-ends_away.true); closed = tt }

pub returns-else-ends_away : goal.returns-else-ends_away
unfolding RestOf
returns-else-ends_away c =
    let rest = c.in-Ok.ensures c.args.start c.requires.0 c.requires.1 in
    record { refused = tt; closed = (rest.0, walk-closed _ c.requires.0 rest.0 rest.1 (sym c.ends_away.ensures ∙ c.if-ends_away.false)) }
