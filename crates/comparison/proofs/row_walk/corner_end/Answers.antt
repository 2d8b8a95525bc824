-- In the corner cell's row the number is raised past the cell's column.
use native.Mathlib.Omega.{arith}
use Rattle.comparison.specs.parts.Rows.{met_to}
use Rattle.comparison.proofs.Lists.{high_one}
use Rattle.comparison.proofs.Sweeps.{to-here, to-else}
use Rattle.comparison.proofs.row_walk.corner_end.Goals as goal

pub returns : goal.returns
returns c =
    let at = c.args.at in
    rw (c.higher.ensures, c.from-row.ensures, c.from.ensures)
    (high_one (met_to at) c.args.end.now at.row _ (omega (arith, c.requires.1, c.requires.2)) (to-here at) (to-else at))
