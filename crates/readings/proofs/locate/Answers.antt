-- The walk from the anchor locates the reading: an edge that it is far outside of ends it, and otherwise its end answers.
use Rattle.std.proofs.Common.{sym, ◌∙◌, arith, rules}
use mir.Syntax.{w16}
use mir.Val.{SFits}
use mir.ValLaws.{to_z-of_z}
use Rattle.edge_walk.proofs.Loop.{chunk_x, chunk_y, chunk_at}
use Rattle.readings.proofs.Walks.{ok, walk-locates, located-bad, bad-both, walked_start, walked-exactly, walked-edge, walked-out, walked_end}
use Rattle.readings.proofs.locate.Goals as goal

pub returns-then-bad_number : goal.returns-then-bad_number
returns-then-bad_number c =
    located-bad _ _ _ (sym (bad-both c.args.reading c.bad_number.ensures c.bad_number-2.ensures) ∙ c.if-bad_number.true)

pub loop-dx-init : goal.loop-dx-init
loop-dx-init c = rw c.begin-at.ensures (walked_start _ _ _ c.requires (omega arith) (omega arith))

pub returns-in_default : goal.returns-in_default
returns-in_default c =
    let good = sym (bad-both c.args.reading c.bad_number.ensures c.bad_number-2.ensures) ∙ c.if-bad_number.false in
    let cs = c.as_chunks.result.0.now in
    let fx : SFits w16 (chunk_x cs c.loop-dx.dx-index) = search rules in
    let fy : SFits w16 (chunk_y cs c.loop-dx.dx-index) = search rules in
    let step = simp (to_z-of_z w16 _ fx, to_z-of_z w16 _ fy) at c.pass.ensures in
    sym (sym (walk-locates _ _ _ good) ∙ ok (walked-out c.loop-dx.invariant (chunk_at c.loop-dx.dx-index c.as_chunks.ensures.front c.as_chunks.ensures.front_len c.loop-dx-test.true) (sym step ∙ c.in_default.is)))

pub loop-dx-preserved : goal.loop-dx-preserved
loop-dx-preserved c =
    let cs = c.as_chunks.result.0.now in
    let fx : SFits w16 (chunk_x cs c.loop-dx.dx-index) = search rules in
    let fy : SFits w16 (chunk_y cs c.loop-dx.dx-index) = search rules in
    let step = simp (to_z-of_z w16 _ fx, to_z-of_z w16 _ fy) at c.pass.ensures in
    walked-edge c.loop-dx.invariant (chunk_at c.loop-dx.dx-index c.as_chunks.ensures.front c.as_chunks.ensures.front_len c.loop-dx-test.true) fx fy (sym step ∙ c.in-Some.is)

pub settle-requires : goal.settle-requires
settle-requires c =
    let e = walked-exactly c.loop-dx.invariant in
    (e.cols.0, e.cols.1, e.rows, sym (bad-both c.args.reading c.bad_number.ensures c.bad_number-2.ensures) ∙ c.if-bad_number.false)

pub returns : goal.returns
returns c =
    let good = sym (bad-both c.args.reading c.bad_number.ensures c.bad_number-2.ensures) ∙ c.if-bad_number.false in
    ok c.settle.ensures ∙ sym (sym (walk-locates _ _ _ good) ∙ ok (walked_end c.loop-dx.invariant (omega (arith, c.as_chunks.ensures.front_len))))
