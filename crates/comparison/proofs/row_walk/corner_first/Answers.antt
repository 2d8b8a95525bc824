-- In the corner cell's row the number is lowered to the cell's column.
use native.Mathlib.Omega.{arith}
use Rattle.comparison.specs.parts.Rows.{met_from}
use Rattle.comparison.proofs.Lists.{low-one}
use Rattle.comparison.proofs.Sweeps.{met-here, met-else}
use Rattle.comparison.proofs.row_walk.corner_first.Goals as goal

pub returns : goal.returns
returns c =
    let at = c.args.at in
    rw (c.lower.ensures, c.from-row.ensures, c.from.ensures)
    (low-one (met_from at) c.args.first.now at.row at.col (omega (arith, c.requires.1, c.requires.2.long)) c.requires.2 (met-here at)
    (met-else at))
