-- No letter passed leaves the chart.
use Rattle.survey_walk.proofs.WalkLaws.{Further}
use Rattle.survey_walk.proofs.walk_on.Given as goal

abbrev pub invariant-loop-place : goal.invariant-loop-place
invariant-loop-place l = Further l.w l.from l.number l.place l.by_col
