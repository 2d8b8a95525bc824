-- For a list that is not too long the definition is refusal 16, which the corner cell decides at the end.
use Prim.Native.Nat.{◌+◌, ◌*◌}
use native.Mathlib.Omega.{arith}
use mathlib.Core.Path.{◌≡◌, sym, ◌∙◌}
use borrow.Author.Tests.{eq-eqb, ne_eqb}
use mir.Syntax.{w16}
use mir.Val.{SFits}
use mir.ValLaws.{to_z-of_z}
use Rattle.edge_walk.proofs.Loop.{chunk_x, chunk_y, chunk_at}
use Rattle.polygon.proofs.Integers.{nil-machine}
use Rattle.polygon.proofs.Turns.{turned-start, turned-edge, turned-off, turned-end}
use Rattle.polygon.proofs.LooseCases.{turning-long}
use Rattle.polygon.proofs.bad_directions.Goals as goal

pub returns-then-edges-gt-LONGEST_LIST : goal.returns-then-edges-gt-LONGEST_LIST
returns-then-edges-gt-LONGEST_LIST c = turning-long _ (omega arith)

pub loop-dx-init : goal.loop-dx-init
loop-dx-init c = rw c.start-at.ensures (turned-start _ (omega arith))

pub returns-then-not-turns_on : goal.returns-then-not-turns_on
returns-then-not-turns_on c =
    let k = c.loop-dx.dx-index in
    let x : SFits w16 (chunk_x c.as_chunks.result.0.now k) = record { sfits = c.dx-1.given } in
    let y : SFits w16 (chunk_y c.as_chunks.result.0.now k) = record { sfits = c.dy-1.given } in
    let e = chunk_at k c.as_chunks.ensures.front c.as_chunks.ensures.front_len c.loop-dx-test.true in
    let off = simp (to_z-of_z w16 _ x, to_z-of_z w16 _ y) at c.turns_on.ensures in
    sym (turned-off c.loop-dx.invariant e (sym off ∙ c.if-not-turns_on.true))

pub loop-dx-preserved : goal.loop-dx-preserved
loop-dx-preserved c =
    let k = c.loop-dx.dx-index in
    let x : SFits w16 (chunk_x c.as_chunks.result.0.now k) = record { sfits = c.dx-1.given } in
    let y : SFits w16 (chunk_y c.as_chunks.result.0.now k) = record { sfits = c.dy-1.given } in
    let n : 2 * (k + 1) ≡ 2 * k + 2 = omega arith in
    let e = chunk_at k c.as_chunks.ensures.front c.as_chunks.ensures.front_len c.loop-dx-test.true in
    let on = simp (to_z-of_z w16 _ x, to_z-of_z w16 _ y) at c.turns_on.ensures in
    let to = simp (to_z-of_z w16 _ x, to_z-of_z w16 _ y) at c.further-at.ensures in
    rw (n, to, to_z-of_z w16 _ x, to_z-of_z w16 _ y) (turned-edge c.loop-dx.invariant e x y (sym on ∙ c.if-not-turns_on.false))

pub returns-then-at-ne0 : goal.returns-then-at-ne0
returns-then-at-ne0 c =
    let all = turned-end c.loop-dx.invariant (omega (arith, c.as_chunks.ensures.front_len, c.loop-dx-test.false)) in
    let col = nil-machine c.loop-dx.at.col (record { sfits = c.struct_told-1.given.0.1 }) in
    let off = sym col ∙ ne_eqb _ _ c.if-at-ne0.true in
    rw (col, off) (sym (all ∙ rw off))

pub returns-else-at-ne0 : goal.returns-else-at-ne0
returns-else-at-ne0 c =
    let all = turned-end c.loop-dx.invariant (omega (arith, c.as_chunks.ensures.front_len, c.loop-dx-test.false)) in
    let col = nil-machine c.loop-dx.at.col (record { sfits = c.struct_told-1.given.0.1 }) in
    let row = nil-machine c.loop-dx.at.row (record { sfits = c.struct_told-else-at-ne0-1.given.1.0.1 }) in
    let on = sym col ∙ eq-eqb _ _ c.if-at-ne0.false in
    rw row (sym (all ∙ rw on))
