-- One more row has its bound, by the edge's end there.
use native.Mathlib.Omega.{arith}
use Prim.Native.Nat.{ℕ, min}
use mathlib.Core.Path.{sym, ap, ◌∙◌}
use Rattle.chart.specs.Limits.{side}
use Rattle.comparison.specs.parts.Rows.{end_of, end_at}
use Rattle.comparison.proofs.Lists.{high-start, high-next, high_end}
use Rattle.comparison.proofs.row_walk.fall.Goals as goal

pub loop-row-init : goal.loop-row-init
loop-row-init c = (omega arith, omega arith, c.requires, high-start c.args.edge.q.row _ c.args.end.now)

pub loop-row-preserved : goal.loop-row-preserved
loop-row-preserved c =
    let v = c.loop-row.invariant in
    let found = c.end_column-bound.ensures ∙ ap end_of c.at_row.ensures.0 ∙ ap (end_at c.args.edge.p c.args.edge.q) c.from.ensures in
    let raised = high-next c.args.edge.q.row _ c.args.end.now (min c.end_column-bound.result side) v.3 (omega (arith, v.0))
    (omega (arith, v.2, v.3.long)) (ap (λ (k : ℕ). min k side) (sym found)) in
    (omega (arith, v.0), omega (arith, v.1), v.2, rw (c.higher.ensures, c.from-at.ensures) raised)

pub returns : goal.returns
returns c = let v = c.loop-row.invariant in high_end _ _ _ v.3 (omega (arith, c.loop-row-test.false)) v.1
