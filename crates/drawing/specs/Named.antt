-- What the reply to a piece and the point beside it say, for every anchor and every list of edges (contract 7.11 and 10.5).
use Rattle.std.specs.Prelude.{◌≡◌, ◌⊎◌, List, Float}
use Rattle.chart.specs.Fields as words
use Rattle.chart.specs.declared.Fields.{Fields}
use Rattle.drawing.specs.Points.{pair_after}
use Rattle.drawing.specs.Claims.{Raised}

-- Two floats stand first in the buffer: the column and the row of the reply, raised by exactly one half
pub record Pointed (f : Fields) (before after : List Float) : Type 0 where
  pub x : Float
  pub y : Float
  pub written : after ≡ pair_after x y before
  pub col : Raised f.col x
  pub row : Raised f.row y

pub record PieceNamed (f : Fields) (before after : List Float) : Type 0 where
  -- a move and a line have a point
  pub point : (f.word ≡ words.move) ⊎ (f.word ≡ words.line) → Pointed f before after
  -- any other reply, a refusal too, leaves the buffer unchanged
  pub unchanged : (f.word ≡ words.move → ⊥) → (f.word ≡ words.line → ⊥) → after ≡ before
