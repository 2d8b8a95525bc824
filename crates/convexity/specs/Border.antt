-- A taken outline with its anchor and its edges (contract 3.12 and 3.13).
use Rattle.std.specs.Prelude.{◌≡◌, List, ℤ}
use Rattle.chart.specs.declared.Point.{Point}
use Rattle.chart.specs.Outline.{Outline}
use Rattle.convexity.specs.Clockwise.{border}
use Rattle.convexity.specs.Pieces.{Reaches, dent_piece, edges}

-- The outline passes refusals 1 to 8 and is not dented; a, the cell at W, is its anchor, and es are its edges
pub record HasEdges (o : Outline) (a : Point) (es : List ℤ) : Type 0 where
  pub reaches : Reaches o
  pub smooth : dent_piece (border o) ≡ 4
  pub anchor : (border o).start ≡ a
  pub edged : edges (border o) ≡ es
