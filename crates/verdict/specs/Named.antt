-- The cell in a reply (contract 8.4): the anchor if the outline is taken, the lowest missing cell if it is refused by 9.
use Rattle.std.specs.Prelude.{◌≡◌}
use Rattle.chart.specs.declared.Point.{Point}
use Rattle.chart.specs.declared.Fields.{Fields}
use Rattle.chart.specs.Outline.{Outline}
use Rattle.lattice.specs.Hull.{LowestMissing}
use Rattle.convexity.specs.Clockwise.{block}
use Rattle.convexity.specs.Pieces.{IsAnchor}

-- The cell of a reply
abbrev pub cell_of : Fields → Point
cell_of f = record { col = f.col; row = f.row }

pub record CellNamed (o : Outline) (f : Fields) : Type 0 where
  pub anchor : f.number ≡ 0 → IsAnchor (block o) (cell_of f)
  pub missing : f.number ≡ 9 → LowestMissing (block o) (cell_of f)
