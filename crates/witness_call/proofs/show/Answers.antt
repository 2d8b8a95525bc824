-- The buffer is too short, or the search finds whether a cell is missing and which cells are written.
use Rattle.chart.specs.Outline.{outline}
use Rattle.witness_call.proofs.Laws.{short-shown, none-shown, found-shown}
use Rattle.witness_call.proofs.show.Goals as goal

pub returns-then-cells-lt-SIX : goal.returns-then-cells-lt-SIX
returns-then-cells-lt-SIX c =
    let said = short-shown (outline c.args.start c.args.letters.now) c.args.cells.now c.if-cells-lt-SIX.true in
    record { answer = said.0; cells = said.1 }

pub returns-in_default : goal.returns-in_default
returns-in_default c =
    let said = none-shown (outline c.args.start c.args.letters.now) c.args.cells.now c.if-cells-lt-SIX.false c.in_default.ensures in
    record { answer = said.0; cells = said.1 }

pub returns : goal.returns
returns c =
    let said =
    found-shown (outline c.args.start c.args.letters.now) c.args.cells.now c.if-cells-lt-SIX.false c.in-Some.shown c.in-Some.ensures
    c.put.ensures in
    record { answer = said.0; cells = said.1 }
