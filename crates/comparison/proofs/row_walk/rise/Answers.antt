-- One more row has its bound, by the edge's first column there.
use native.Mathlib.Omega.{arith}
use Prim.Native.Nat.{ℕ, min}
use mathlib.Core.Path.{sym, ap, ◌∙◌}
use Rattle.chart.specs.Limits.{side}
use Rattle.comparison.specs.parts.Rows.{first_of, first_at}
use Rattle.comparison.proofs.Lists.{low-start, low-next, low_end}
use Rattle.comparison.proofs.row_walk.rise.Goals as goal

pub loop-row-init : goal.loop-row-init
loop-row-init c = (omega arith, omega arith, c.requires, low-start c.args.edge.p.row _ c.args.first.now c.requires)

pub loop-row-preserved : goal.loop-row-preserved
loop-row-preserved c =
    let v = c.loop-row.invariant in
    let found = c.first_column-bound.ensures ∙ ap first_of c.at_row.ensures.0 ∙ ap (first_at c.args.edge.p c.args.edge.q) c.from.ensures in
    let lowered = low-next c.args.edge.p.row _ c.args.first.now c.first_column-bound.result v.2 v.3 (omega (arith, v.0))
    (omega (arith, v.2.long, v.3.long)) (ap (λ (k : ℕ). min k side) (sym found)) in
    (omega (arith, v.0), omega (arith, v.1), v.2, rw (c.lower.ensures, c.from-at.ensures) lowered)

pub returns : goal.returns
returns c = let v = c.loop-row.invariant in low_end _ _ _ v.3 (omega (arith, c.loop-row-test.false)) v.1
