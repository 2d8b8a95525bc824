-- The edges are compared only if the anchors are the same.
use mathlib.Core.Path.{sym, ◌∙◌}
use Rattle.lattice.specs.Chart.{same_point}
use Rattle.equality.proofs.same_edges.Goals as goal

pub returns-then-eq : goal.returns-then-eq
unfolding same_point
returns-then-eq c = rw (sym c.eq.ensures ∙ c.if-eq.true) c.same_numbers.ensures

pub returns-else-eq : goal.returns-else-eq
unfolding same_point
returns-else-eq c = c.if-eq.false ∙ rw (sym c.eq.ensures ∙ c.if-eq.false)
