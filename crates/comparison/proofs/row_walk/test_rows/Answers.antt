-- Two walks fill the lists, and the tests of the lists are those of the polygons.
use mathlib.Core.Path.{◌∙◌}
use Rattle.comparison.proofs.RowTests.{compared-swept}
use Rattle.comparison.proofs.row_walk.test_rows.Goals as goal

pub returns : goal.returns
returns c = c.compare_rows.ensures ∙ compared-swept _ _ _ _ _ _ c.sweep.ensures c.sweep-2.ensures
