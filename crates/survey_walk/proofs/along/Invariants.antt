-- The loop keeps the current corner, the corners met, and the least and greatest numbers of those passed.
use Rattle.chart.specs.Outline.{outline}
use Rattle.survey_walk.proofs.AlongLaws.{Along}
use Rattle.survey_walk.proofs.along.Given as goal

abbrev pub invariant-loop-i : goal.invariant-loop-i
invariant-loop-i l = Along (outline l.fn.s l.w) l.i l.by_col l.by_row l.met.words l.west l.north l.east l.south
