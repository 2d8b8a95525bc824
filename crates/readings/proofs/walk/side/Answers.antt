-- The steps are those of the definition, once the whole numbers are read from their bits.
use Rattle.std.proofs.Common.{rules}
use mir.Syntax.{w16, w32}
use mir.Val.{SFits}
use mir.ValLaws.{to_z-of_z}
use Rattle.readings.specs.Sides.{computed_side}
use Rattle.readings.proofs.Numbers.{reached-float}
use Rattle.readings.proofs.walk.side.Goals as goal

pub int_to_float-across-2 : goal.int_to_float-across-2
int_to_float-across-2 c =
    let col : SFits w32 c.args.at.col = search rules in
    simp (to_z-of_z w32 _ col) (reached-float c.args.at.col c.requires.0)

pub int_to_float-up-2 : goal.int_to_float-up-2
int_to_float-up-2 c =
    let row : SFits w32 c.args.at.row = search rules in
    simp (to_z-of_z w32 _ row) (reached-float c.args.at.row c.requires.1)

pub returns : goal.returns
unfolding computed_side
returns c =
    let col : SFits w32 c.args.at.col = search rules in
    let row : SFits w32 c.args.at.row = search rules in
    simp (to_z-of_z w16 _ c.ranges.dx, to_z-of_z w16 _ c.ranges.dy, to_z-of_z w32 _ col, to_z-of_z w32 _ row)
