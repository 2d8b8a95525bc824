-- A letter leaves the chart, or a corner is met again and the rest of the walk decides, or the end of the walk decides.
use native.Mathlib.Omega.{arith}
use mathlib.Core.Path.{sym, ◌∙◌}
use Rattle.survey_walk.specs.parts.Walks.{WalkedAs}
use Rattle.survey_walk.proofs.CheckLaws.{counted-short}
use Rattle.survey.proofs.SurveyLaws.{walk-leaves, walk-unclosed, walk-closed, walk-passed}
use Rattle.survey.proofs.marked.Goals as goal

pub overflow_cast-result : goal.overflow_cast-result
unfolding WalkedAs
overflow_cast-result c = omega (arith, counted-short _ c.requires.counted, c.in-Leaves.ensures.0)

pub touched-requires : goal.touched-requires
unfolding WalkedAs
touched-requires c = (c.requires, c.in-Meets.ensures)

pub returns-then-ends_away : goal.returns-then-ends_away
unfolding WalkedAs
returns-then-ends_away c =
    let round = c.in-Round.ensures in
    walk-unclosed _ c.requires round.stays round.number (sym c.ends_away.ensures ∙ c.if-ends_away.true)

pub returns-in-Leaves : goal.returns-in-Leaves
unfolding WalkedAs
returns-in-Leaves c =
    let left = c.in-Leaves.ensures in
    walk-leaves _ c.requires left.1 left.0

pub returns-else-ends_away : goal.returns-else-ends_away
unfolding WalkedAs
returns-else-ends_away c =
    let round = c.in-Round.ensures in
    let closed = walk-closed _ c.requires round.stays round.number (sym c.ends_away.ensures ∙ c.if-ends_away.false) in
    walk-passed _ c.requires round.stays closed round.meets round.corners
