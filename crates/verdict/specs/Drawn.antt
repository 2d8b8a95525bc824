-- Replies that agree in everything except the place. A place is an index in the list as sent, so it depends on how a block was drawn.
use Rattle.std.specs.Prelude.{◌≡◌}
use Rattle.chart.specs.declared.Fields.{Fields}

pub record SameButPlace (f g : Fields) : Type 0 where
  pub number : f.number ≡ g.number
  pub word : f.word ≡ g.word
  pub piece : f.piece ≡ g.piece
  pub same_length : f.length ≡ g.length
  pub col : f.col ≡ g.col
  pub row : f.row ≡ g.row
  -- the place of a taken outline is its count of edges
  pub edges : f.number ≡ 0 → f.place ≡ g.place
