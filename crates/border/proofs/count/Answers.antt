-- One more edge adds its columns and its rows.
use Prim.Native.Nat.{◌+◌, ◌*◌}
use native.Mathlib.Omega.{arith}
use mathlib.Core.Path.{◌≡◌, refl}
use mir.Syntax.{w16}
use mir.Val.{SFits}
use mir.ValLaws.{to_z-of_z}
use Rattle.edge_walk.proofs.Loop.{chunk_x, chunk_y, chunk_at}
use Rattle.border.proofs.Building.{steps_next, steps-end}
use Rattle.border.proofs.count.Goals as goal

pub loop-dx-init : goal.loop-dx-init
loop-dx-init c = (refl, omega arith)

pub loop-dx-preserved : goal.loop-dx-preserved
loop-dx-preserved c =
    let v = c.loop-dx.invariant in
    let e : 2 * (c.loop-dx.dx-index + 1) ≡ 2 * c.loop-dx.dx-index + 2 = omega arith in
    let x : SFits w16 (chunk_x c.as_chunks.result.0.now c.loop-dx.dx-index) = record { sfits = c.dx-1.given } in
    let y : SFits w16 (chunk_y c.as_chunks.result.0.now c.loop-dx.dx-index) = record { sfits = c.dy-1.given } in
    let cols = simp (to_z-of_z w16 _ x) at c.size.ensures.0 in
    let rows = simp (to_z-of_z w16 _ y) at c.size-in-loop-dx.ensures.0 in
    let next = steps_next (chunk_at c.loop-dx.dx-index c.as_chunks.ensures.front c.as_chunks.ensures.front_len c.loop-dx-test.true) in (
      rw e (omega (arith, v.0, cols, rows, next)),
      omega (arith, v.1, c.size.ensures.1, c.size-in-loop-dx.ensures.1),
    )

pub returns : goal.returns
returns c = omega (arith, c.loop-dx.invariant.0, steps-end c.args.edges.now (2 * c.loop-dx.dx-index) (omega (arith, c.as_chunks.ensures.front_len, c.loop-dx-test.false)))
