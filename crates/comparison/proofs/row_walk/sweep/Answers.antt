-- Both ends of each edge are on the chart.
use Prim.Native.Nat.{◌+◌, ◌*◌}
use native.Mathlib.Omega.{arith}
use mathlib.Core.Path.{◌≡◌, ap, ◌∙◌}
use mir.Syntax.{w16}
use mir.Val.{SFits}
use mir.ValLaws.{to_z-of_z}
use Rattle.edge_walk.specs.parts.Walk.{cell_at}
use Rattle.edge_walk.proofs.Loop.{chunk_x, chunk_y, chunk_at}
use Rattle.edge_walk.proofs.Sizes.{on-chart-fits}
use Rattle.comparison.proofs.Steps.{standing_on, standing_here, next-on, standing-next}
use Rattle.comparison.proofs.Lists.{lowered-below}
use Rattle.comparison.proofs.Sweeps.{sweeping-start, sweeping-next, sweeping-end}
use Rattle.comparison.proofs.row_walk.sweep.Goals as goal

pub loop-dx-init : goal.loop-dx-init
loop-dx-init c = sweeping-start _ _ _ _ c.requires.0 c.requires.1 c.requires.2

pub corner_first-requires : goal.corner_first-requires
corner_first-requires c = let w = c.loop-dx.invariant in let a = standing_here w.stands in (a.0, a.1, w.below)

pub corner_end-requires : goal.corner_end-requires
corner_end-requires c = let w = c.loop-dx.invariant in let a = standing_here w.stands in (a.0, a.1, w.wide)

pub further-requires : goal.further-requires
further-requires c =
    let x : SFits w16 (chunk_x c.as_chunks.result.0.now c.loop-dx.dx-index) = record { sfits = c.dx-1.given } in
    let y : SFits w16 (chunk_y c.as_chunks.result.0.now c.loop-dx.dx-index) = record { sfits = c.dy-1.given } in
    simp (to_z-of_z w16 _ x, to_z-of_z w16 _ y, c.start.ensures) (on-chart-fits _ (standing_on c.loop-dx.invariant.stands) x y)

pub cell-next-requires : goal.cell-next-requires
cell-next-requires c =
    let x : SFits w16 (chunk_x c.as_chunks.result.0.now c.loop-dx.dx-index) = record { sfits = c.dx-1.given } in
    let y : SFits w16 (chunk_y c.as_chunks.result.0.now c.loop-dx.dx-index) = record { sfits = c.dy-1.given } in
    let to = simp (to_z-of_z w16 _ x, to_z-of_z w16 _ y, c.start.ensures) at c.further.ensures in
    rw to (next-on c.loop-dx.invariant.stands (chunk_at c.loop-dx.dx-index c.as_chunks.ensures.front c.as_chunks.ensures.front_len c.loop-dx-test.true))

pub invariant_of-edge : goal.invariant_of-edge
invariant_of-edge c =
    let w = c.loop-dx.invariant in
    let a = standing_here w.stands in
    let b = standing_here (standing-next w.stands (chunk_at c.loop-dx.dx-index c.as_chunks.ensures.front c.as_chunks.ensures.front_len c.loop-dx-test.true)) in
    let x : SFits w16 (chunk_x c.as_chunks.result.0.now c.loop-dx.dx-index) = record { sfits = c.dx-1.given } in
    let y : SFits w16 (chunk_y c.as_chunks.result.0.now c.loop-dx.dx-index) = record { sfits = c.dy-1.given } in
    let to = simp (to_z-of_z w16 _ x, to_z-of_z w16 _ y, c.start.ensures) at c.further.ensures in
    let cell = c.cell-next.ensures ∙ ap cell_at to in
    record { on_chart = (a.0, a.1, rw cell b.0, rw cell b.1) }

pub rise-requires : goal.rise-requires
rise-requires c = lowered-below c.loop-dx.invariant.below c.corner_first.ensures

pub fall-requires : goal.fall-requires
fall-requires c = c.corner_end.ensures.long ∙ c.loop-dx.invariant.wide

pub loop-dx-preserved : goal.loop-dx-preserved
loop-dx-preserved c =
    let e : 2 * (c.loop-dx.dx-index + 1) ≡ 2 * c.loop-dx.dx-index + 2 = omega arith in
    let x : SFits w16 (chunk_x c.as_chunks.result.0.now c.loop-dx.dx-index) = record { sfits = c.dx-1.given } in
    let y : SFits w16 (chunk_y c.as_chunks.result.0.now c.loop-dx.dx-index) = record { sfits = c.dy-1.given } in
    let to = simp (to_z-of_z w16 _ x, to_z-of_z w16 _ y, c.start.ensures) at c.further.ensures in
    let cell = c.cell-next.ensures ∙ ap cell_at to in
    let r = rw cell at c.rise.ensures in
    let l = rw cell at c.fall.ensures in
    rw (e, cell)
    (sweeping-next c.loop-dx.invariant (chunk_at c.loop-dx.dx-index c.as_chunks.ensures.front c.as_chunks.ensures.front_len c.loop-dx-test.true) c.corner_first.ensures c.corner_end.ensures r l)

pub corner_first-requires-2 : goal.corner_first-requires-2
corner_first-requires-2 c = let w = c.loop-dx.invariant in let a = standing_here w.stands in (a.0, a.1, w.below)

pub corner_end-requires-2 : goal.corner_end-requires-2
corner_end-requires-2 c = let w = c.loop-dx.invariant in let a = standing_here w.stands in (a.0, a.1, w.wide)

pub returns : goal.returns
returns c =
    sweeping-end c.loop-dx.invariant (omega (arith, c.as_chunks.ensures.front_len, c.loop-dx-test.false)) c.corner_first-2.ensures c.corner_end-2.ensures
