-- The walk leaves the chart at the first corner cell off it.
use Prim.Native.Nat.{◌+◌, ◌*◌}
use native.Mathlib.Omega.{arith}
use mathlib.Core.Path.{◌≡◌, refl, sym, ap, ◌∙◌}
use mathlib.Core.Bool.{not}
use mir.Syntax.{w16}
use mir.Val.{SFits}
use mir.ValLaws.{to_z-of_z}
use Rattle.convexity.specs.Edges.{pairs}
use Rattle.edge_walk.proofs.Loop.{chunk_x, chunk_y, chunk_at}
use Rattle.edge_walk.proofs.Sizes.{on-chart-fits}
use Rattle.comparison.proofs.Steps.{stays, leaving-next, leaving-off, leaving-end}
use Rattle.comparison.proofs.leaves_chart.Goals as goal

pub loop-dx-init : goal.loop-dx-init
loop-dx-init c = record { passed = omega arith; left = refl }

pub returns-then-not-on_chart : goal.returns-then-not-on_chart
returns-then-not-on_chart c =
    let off = leaving-off c.loop-dx.invariant (chunk_at c.loop-dx.dx-index c.as_chunks.ensures.front c.as_chunks.ensures.front_len c.loop-dx-test.true) (sym c.on_chart.ensures ∙ c.if-not-on_chart.true) in
    sym (ap not (ap (stays (pairs c.args.edges.now)) (sym c.start-at.ensures) ∙ off))

pub further-at-requires : goal.further-at-requires
further-at-requires c =
    let x : SFits w16 (chunk_x c.as_chunks.result.0.now c.loop-dx.dx-index) = record { sfits = c.dx-1.given } in
    let y : SFits w16 (chunk_y c.as_chunks.result.0.now c.loop-dx.dx-index) = record { sfits = c.dy-1.given } in
    simp (to_z-of_z w16 _ x, to_z-of_z w16 _ y) (on-chart-fits _ (sym c.on_chart.ensures ∙ c.if-not-on_chart.false) x y)

pub loop-dx-preserved : goal.loop-dx-preserved
loop-dx-preserved c =
    let x : SFits w16 (chunk_x c.as_chunks.result.0.now c.loop-dx.dx-index) = record { sfits = c.dx-1.given } in
    let y : SFits w16 (chunk_y c.as_chunks.result.0.now c.loop-dx.dx-index) = record { sfits = c.dy-1.given } in
    let e : 2 * (c.loop-dx.dx-index + 1) ≡ 2 * c.loop-dx.dx-index + 2 = omega arith in
    let on = sym c.on_chart.ensures ∙ c.if-not-on_chart.false in
    let to = simp (to_z-of_z w16 _ x, to_z-of_z w16 _ y) at c.further-at.ensures in
    rw (e, to) (leaving-next c.loop-dx.invariant (chunk_at c.loop-dx.dx-index c.as_chunks.ensures.front c.as_chunks.ensures.front_len c.loop-dx-test.true) on)

pub returns : goal.returns
returns c =
    let end = leaving-end c.loop-dx.invariant (omega (arith, c.as_chunks.ensures.front_len, c.loop-dx-test.false)) in
    ap not (c.on_chart-2.ensures ∙ sym (ap (stays (pairs c.args.edges.now)) (sym c.start-at.ensures) ∙ end))
