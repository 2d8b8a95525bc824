-- What is kept so far, together with the remaining letters, gives the sides of the rows.
use Rattle.chart.specs.Outline.{outline}
use Rattle.rows.specs.Search.{corner_numbered}
use Rattle.row_sides.proofs.Laws.{Passing}
use Rattle.row_sides.proofs.pass.Given as goal

abbrev pub invariant-loop-letter : goal.invariant-loop-letter
invariant-loop-letter l =
    Passing (outline (corner_numbered l.initial.number) l.w) l.letter-index (corner_numbered l.number) l.sides.lo l.sides.en l.sides.hi
    l.low l.high
