-- Equal lists have equal hulls. For other lists the tests of the rows decide.
use mathlib.Core.Path.{sym, ◌∙◌}
use Rattle.comparison.proofs.RowTests.{nests-same, nests-by-rows}
use Rattle.comparison.proofs.nest.Goals as goal

pub returns-then-same_edges : goal.returns-then-same_edges
returns-then-same_edges c = nests-same _ _ _ _ c.requires.0 (sym c.same_edges.ensures ∙ c.if-same_edges.true)

pub returns : goal.returns
returns c = c.by_rows.ensures ∙ nests-by-rows c.requires.0 c.requires.1 _ c.test_rows.ensures
