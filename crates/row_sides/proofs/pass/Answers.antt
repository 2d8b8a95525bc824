-- A letter takes what is kept on to the next corner.
use Rattle.std.proofs.Common.{◌≡◌, ℕ, List, sym, ap, subst, arith}
use Rattle.chart.specs.declared.Point.{Point}
use Rattle.chart.specs.Outline.{Outline, outline}
use Rattle.lattice.specs.Refusals.{Simple}
use Rattle.rows.specs.Search.{numbered, corner_numbered}
use Rattle.rows.proofs.RowLaws.{wrapped_sum}
use Rattle.row_sides.specs.parts.Passed.{Passed}
use Rattle.row_sides.proofs.Laws.{passing-start, passing-next, passing-end, start-numbered, next-numbered}
use Rattle.row_sides.proofs.pass.Goals as goal

-- The start is a corner of the chart, so its number stands for it
module _ (s : Point) (w : List ℕ) (h : Simple (outline s w)) where
  same : outline (corner_numbered (numbered s)) w ≡ outline s w
  same = ap (λ (p : Point). outline p w) (start-numbered (outline s w) h)

  simple : Simple (outline (corner_numbered (numbered s)) w)
  simple = subst (λ (o : Outline). Simple o) (sym same) h

pub loop-letter-init : goal.loop-letter-init
loop-letter-init c = passing-start (outline (corner_numbered (numbered c.args.s)) c.args.w.now)

pub mark-requires : goal.mark-requires
mark-requires c = let k = c.loop-letter.invariant in (k.lo_size, k.en_size, k.hi_size)

pub loop-letter-preserved : goal.loop-letter-preserved
loop-letter-preserved c =
    let l = c.loop-letter in
    let i = l.letter-index in
    let o : Outline = outline (corner_numbered (numbered c.args.s)) c.args.w.now in
    passing-next o i (corner_numbered l.number) l.sides.lo l.sides.en l.sides.hi l.low l.high (omega arith) l.invariant _ _ _
    c.min-low.result c.max-high.result _ c.mark.ensures c.min-low.ensures c.max-high.ensures
    (next-numbered o (simple c.args.s c.args.w.now c.requires) i l.number c.wrapping_add_u16-next.result (omega arith) l.invariant.at
    (wrapped_sum l.number _ c.stride.result c.wrapping_add_u16-next.result c.stride.ensures c.wrapping_add_u16-next.ensures.value))

pub returns : goal.returns
returns c =
    let l = c.loop-letter in
    subst
    (λ (o : Outline). Passed o l.sides.lo l.sides.en l.sides.hi l.low l.high)
    (same c.args.s c.args.w.now c.requires)
    (passing-end (outline (corner_numbered (numbered c.args.s)) c.args.w.now) l.letter-index (corner_numbered l.number) l.sides.lo
    l.sides.en l.sides.hi l.low l.high (omega arith) l.invariant)
