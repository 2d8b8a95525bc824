-- There is room for each edge, and for the pieces that no edge begins.
use Prim.Native.Nat.{◌+◌, ◌*◌}
use native.Mathlib.Omega.{arith}
use mathlib.Core.Path.{◌≡◌}
use mir.Syntax.{w16}
use mir.Val.{SFits}
use mir.ValLaws.{to_z-of_z}
use Rattle.edge_walk.proofs.Loop.{chunk_x, chunk_y, chunk_at}
use Rattle.border.proofs.Building.{building-start, first-here, step_room, building-step, end-room, building-end}
use Rattle.border.proofs.writer.build.Goals as goal

pub loop-dx-init : goal.loop-dx-init
loop-dx-init c = rw c.pair_at.ensures.later (building-start c.args.edges.now c.args.letters.now c.requires.0 c.requires.1)

pub step-writer-requires : goal.step-writer-requires
step-writer-requires c =
    let x : SFits w16 (chunk_x c.as_chunks.result.0.now c.loop-dx.dx-index) = record { sfits = c.dx-1.given } in
    let y : SFits w16 (chunk_y c.as_chunks.result.0.now c.loop-dx.dx-index) = record { sfits = c.dy-1.given } in
    let b = c.loop-dx.invariant in
    let more = chunk_at c.loop-dx.dx-index c.as_chunks.ensures.front c.as_chunks.ensures.front_len c.loop-dx-test.true in
    let f = first-here b more in
    record {
      piece_bound = simp (to_z-of_z w16 _ x, to_z-of_z w16 _ y) (f.from, f.small);
      dy_in_bounds = simp (to_z-of_z w16 _ x, to_z-of_z w16 _ y) (step_room b more);
    }

pub loop-dx-preserved : goal.loop-dx-preserved
loop-dx-preserved c =
    let x : SFits w16 (chunk_x c.as_chunks.result.0.now c.loop-dx.dx-index) = record { sfits = c.dx-1.given } in
    let y : SFits w16 (chunk_y c.as_chunks.result.0.now c.loop-dx.dx-index) = record { sfits = c.dy-1.given } in
    let e : 2 * (c.loop-dx.dx-index + 1) ≡ 2 * c.loop-dx.dx-index + 2 = omega arith in
    let at = simp (to_z-of_z w16 _ x, to_z-of_z w16 _ y) at c.step-writer.ensures.at in
    let piece = simp (to_z-of_z w16 _ x, to_z-of_z w16 _ y) at c.step-writer.ensures.piece in
    let wrote = simp (to_z-of_z w16 _ x, to_z-of_z w16 _ y) at c.step-writer.ensures.letters in
    rw (e, at, piece) (building-step c.loop-dx.invariant (chunk_at c.loop-dx.dx-index c.as_chunks.ensures.front c.as_chunks.ensures.front_len c.loop-dx-test.true) wrote)

pub begin_pieces-requires : goal.begin_pieces-requires
begin_pieces-requires c = (c.loop-dx.invariant.piece, end-room c.loop-dx.invariant (omega (arith, c.as_chunks.ensures.front_len, c.loop-dx-test.false)))

pub returns : goal.returns
returns c = building-end c.loop-dx.invariant (omega (arith, c.as_chunks.ensures.front_len, c.loop-dx-test.false)) c.begin_pieces.ensures.1
