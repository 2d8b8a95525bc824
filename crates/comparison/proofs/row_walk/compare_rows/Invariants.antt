-- The tests of the rows so far are those of the definition, row by row.
use Rattle.std.proofs.Common.{◌≡◌}
use Rattle.comparison.specs.parts.Rows.{compared_to}
use Rattle.comparison.proofs.row_walk.compare_rows.Given as goal

abbrev pub invariant-loop-row : goal.invariant-loop-row
invariant-loop-row l =
    record { inward = l.inward; outward = l.outward; apart = l.apart } ≡ compared_to l.first l.end l.other_first l.other_end l.row
