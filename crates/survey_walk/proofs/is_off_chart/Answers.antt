-- The two tests are those of the definition.
use Rattle.std.proofs.Common.{refl}
use Rattle.survey_walk.specs.parts.Numbers.{off_chart}
use Rattle.survey_walk.proofs.is_off_chart.Goals as goal

pub returns : goal.returns
unfolding off_chart
returns c = refl
