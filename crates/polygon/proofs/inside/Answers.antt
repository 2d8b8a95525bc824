-- The rule of the edges is the loop's answer for all of them.
use Prim.Native.Nat.{◌+◌, ◌*◌}
use native.Mathlib.Omega.{arith}
use mathlib.Core.Path.{◌≡◌, sym, ap, ◌∙◌}
use mir.Syntax.{w16, w32}
use mir.Val.{SFits}
use mir.ValLaws.{to_z-of_z}
use Rattle.edge_walk.specs.declared.Corner.{Corner}
use Rattle.edge_walk.proofs.Loop.{chunk_x, chunk_y, chunk_at}
use Rattle.polygon.specs.parts.Span.{begun}
use Rattle.polygon.proofs.Spans.{walked-start, walked-edge, walked-outside, walked_end}
use Rattle.polygon.proofs.LooseCases.{inside-long}
use Rattle.polygon.proofs.inside.Goals as goal

pub returns-then-edges-gt-LONGEST_LIST : goal.returns-then-edges-gt-LONGEST_LIST
returns-then-edges-gt-LONGEST_LIST c = inside-long _ _ _ (omega arith)

pub loop-dx-init : goal.loop-dx-init
loop-dx-init c =
    let cols = simp (to_z-of_z w32 c.start-at.result.col (record { sfits = c.struct_told-1.given.0.1 })) at c.begin-cols.ensures
    ∙ ap (λ (k : Corner). begun k.col) c.start-at.ensures in
    let rows = simp (to_z-of_z w32 c.start-at.result.row (record { sfits = c.struct_told-2-1.given.1.0.1 })) at c.begin-rows.ensures
    ∙ ap (λ (k : Corner). begun k.row) c.start-at.ensures in
    rw (cols, rows, c.start-at.ensures)
    (walked-start c.args.anchor c.args.edges.now c.args.cell (omega (arith, c.well_formed.0)) (omega (arith, c.well_formed.0)) (omega arith))

pub returns-then-not-beside : goal.returns-then-not-beside
returns-then-not-beside c =
    let k = c.loop-dx.dx-index in
    let x : SFits w16 (chunk_x c.as_chunks.result.0.now k) = record { sfits = c.dx-1.given } in
    let y : SFits w16 (chunk_y c.as_chunks.result.0.now k) = record { sfits = c.dy-1.given } in
    let e = chunk_at k c.as_chunks.ensures.front c.as_chunks.ensures.front_len c.loop-dx-test.true in
    let off = simp (to_z-of_z w16 _ x, to_z-of_z w16 _ y) at c.beside.ensures in
    sym (walked-outside c.loop-dx.invariant e (sym off ∙ c.if-not-beside.true))

pub loop-dx-preserved : goal.loop-dx-preserved
loop-dx-preserved c =
    let k = c.loop-dx.dx-index in
    let x : SFits w16 (chunk_x c.as_chunks.result.0.now k) = record { sfits = c.dx-1.given } in
    let y : SFits w16 (chunk_y c.as_chunks.result.0.now k) = record { sfits = c.dy-1.given } in
    let n : 2 * (k + 1) ≡ 2 * k + 2 = omega arith in
    let e = chunk_at k c.as_chunks.ensures.front c.as_chunks.ensures.front_len c.loop-dx-test.true in
    let on = simp (to_z-of_z w16 _ x, to_z-of_z w16 _ y) at c.beside.ensures in
    let to = simp (to_z-of_z w16 _ x, to_z-of_z w16 _ y) at c.further-at.ensures in
    let cols = simp (to_z-of_z w32 c.further-at.result.col (record { sfits = c.struct_told-in-loop-dx-1.given.0.1 })) at c.meet-cols.ensures in
    let rows = simp (to_z-of_z w32 c.further-at.result.row (record { sfits = c.struct_told-in-loop-dx-2-1.given.1.0.1 })) at c.meet-rows.ensures in
    rw (n, cols, rows, to) (walked-edge c.loop-dx.invariant e x y (sym on ∙ c.if-not-beside.false))

pub returns-then-spans : goal.returns-then-spans
returns-then-spans c =
    sym (walked_end c.loop-dx.invariant (omega (arith, c.as_chunks.ensures.front_len, c.loop-dx-test.false))
    ∙ simp (sym c.spans.ensures ∙ c.if-spans.true, c.spans-then-spans.ensures))

pub returns-else-spans : goal.returns-else-spans
returns-else-spans c =
    sym (walked_end c.loop-dx.invariant (omega (arith, c.as_chunks.ensures.front_len, c.loop-dx-test.false))
    ∙ rw (sym c.spans.ensures ∙ c.if-spans.false) (sym c.if-spans.false))
