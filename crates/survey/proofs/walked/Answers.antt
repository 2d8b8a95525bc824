-- A walk without marks from the start decides refusals 4 and 5 whatever the hint said; in every other case the marking walk decides.
use Rattle.lattice.proofs.Staying.{start-on-chart}
use Rattle.survey_walk.proofs.WalkLaws.{out-start}
use Rattle.survey.proofs.walked.Goals as goal

pub col_number-requires : goal.col_number-requires
col_number-requires c = let h = start-on-chart _ c.requires.started in (h.col, h.row)

pub closes-requires : goal.closes-requires
closes-requires c = (c.requires, out-start _ c.requires c.col_number.ensures)
