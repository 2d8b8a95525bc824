-- The corner cells along edges: the first, the next, and a corner cell as a cell of the chart.
use Rattle.std.specs.Prelude.{ℤ, pos, nat_abs, ◌+ℤ◌}
use Rattle.chart.specs.declared.Point.{Point}
use Rattle.edge_walk.specs.declared.Corner.{Corner}

abbrev pub started : Point → Corner
started a = record { col = pos a.col; row = pos a.row }

abbrev pub stepped : Corner → ℤ → ℤ → Corner
stepped c dx dy = record { col = c.col +ℤ dx; row = c.row +ℤ dy }

-- A corner cell on the chart has no negative number
abbrev pub cell_at : Corner → Point
cell_at c = record { col = nat_abs c.col; row = nat_abs c.row }
