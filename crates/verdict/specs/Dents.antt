-- Outlines that pass refusals 1 to 8 and are dented, and their refusal 9 (contract 3.11 and 5.2).
use Rattle.std.specs.Prelude.{◌<◌}
use Rattle.chart.specs.declared.Refusal.{Refusal}
use Rattle.chart.specs.Outline.{Outline}
use Rattle.convexity.specs.Clockwise.{border, place_sent}
use Rattle.convexity.specs.Pieces.{dent_piece, Reaches}
use Rattle.verdict.specs.Verdict.{dent_in}

-- None of 1 to 8 applies, and some factor is not a Christoffel word
pub record Dented (o : Outline) : Type 0 where
  pub reaches : Reaches o
  pub dented : dent_piece (border o) < 4

unfoldable pub dent_of : Outline → Refusal
dent_of o = dent_in (place_sent o) (border o) (dent_piece (border o))
