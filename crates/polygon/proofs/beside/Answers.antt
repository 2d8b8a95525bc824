-- The side value is the difference of two products, and is not negative exactly if the second is at most the first.
use mathlib.Core.Path.{◌∙◌}
use lib.IntN.{pos, ◌-ℤ◌, ◌*ℤ◌}
use mir.Syntax.{w16, w32}
use mir.ValLaws.{to_z-of_z}
use Rattle.convexity.specs.Inside.{side_value}
use Rattle.base.proofs.Sizes.{read_back}
use Rattle.polygon.proofs.Integers.{at_most_difference}
use Rattle.polygon.proofs.beside.Goals as goal

pub returns : goal.returns
unfolding side_value
returns c =
    let s = c.args in
    let across = read_back c.moment-across.result c.moment-across.type_inv
    ∙ simp (to_z-of_z w16 s.dy c.ranges.dy, to_z-of_z w32 s.at.col (record { sfits = c.struct_told-1.given.0.1 })) at c.moment-across.ensures in
    let up = read_back c.moment-up.result c.moment-up.type_inv
    ∙ simp (to_z-of_z w16 s.dx c.ranges.dx, to_z-of_z w32 s.at.row (record { sfits = c.struct_told-2-1.given.1.0.1 })) at c.moment-up.ensures in
    simp (across, up) (at_most_difference (s.dy *ℤ (pos s.cell.col -ℤ s.at.col)) (s.dx *ℤ (pos s.cell.row -ℤ s.at.row)))
