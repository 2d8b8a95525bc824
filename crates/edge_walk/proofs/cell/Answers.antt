-- A number on the chart is not negative and fits 16 bits.
use mir.Syntax.{w32}
use mir.ValLaws.{to_z-of_z}
use Rattle.directions.proofs.OnChart.{number_fits, on-parts}
use Rattle.edge_walk.proofs.cell.Goals as goal

pub overflow_cast-result : goal.overflow_cast-result
overflow_cast-result c =
    rw (to_z-of_z w32 c.args.at.col (record { sfits = c.struct_told-1.given.0.1 })) (number_fits _ (on-parts _ _ c.requires).0)

pub overflow_cast-result-2 : goal.overflow_cast-result-2
overflow_cast-result-2 c =
    rw (to_z-of_z w32 c.args.at.row (record { sfits = c.struct_told-2-1.given.1.0.1 })) (number_fits _ (on-parts _ _ c.requires).1)
