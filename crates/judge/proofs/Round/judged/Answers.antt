-- The first back-step is refused; a border without one goes on to the search for dents.
use Rattle.judge.proofs.PieceLaws.{short, step-outcome, none-straight}
use Rattle.judge.proofs.Round.judged.Goals as goal

pub first-requires : goal.first-requires
first-requires c = short c.requires

pub edges-requires : goal.edges-requires
edges-requires c = record { round_of = c.requires; letters_value = none-straight c.requires c.in-None.ensures }

pub returns-in-Some : goal.returns-in-Some
returns-in-Some c = step-outcome c.requires c.in-Some.ensures c.sent.ensures _
