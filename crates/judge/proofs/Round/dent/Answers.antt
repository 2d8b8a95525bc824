-- The rows of S and N bound the search for the missing cell, and the place is converted to one of the list as sent.
use Rattle.judge.proofs.PieceLaws.{dent-named}
use Rattle.judge.proofs.Round.dent.Goals as goal

pub returns : goal.returns
returns c = dent-named c.requires.round_of _ _ _ c.requires.piece_bound.1 c.sent.ensures c.missing_cell.ensures
