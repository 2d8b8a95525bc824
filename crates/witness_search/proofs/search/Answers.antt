-- The edges of a row follow from those of the row below it, and its column to test from the edges.
use Prim.Native.Nat.{ℕ, suc, ◌-◌, ◌<◌}
use mathlib.Core.Path.{◌≡◌, sym, ◌∙◌}
use native.Mathlib.Omega.{arith}
use Rattle.chart.specs.Limits.{side}
use Rattle.rows.specs.parts.Rows.{rows}
use Rattle.witness_search.proofs.Laws.{searching-start, searching-next, left-edge, right-edge, across-row, answers-found, answers-none}
use Rattle.witness_search.proofs.search.Goals as goal

pub loop-r-init : goal.loop-r-init
loop-r-init c =
    let two : suc c.from-b.result < c.from-t.result = omega (arith, c.requires.0, c.from-b.ensures, c.from-t.ensures) in
    let mirrors : (s : ℕ) → s < c.from-t.result → rows c.mirrored-m.result s ≡ side - rows c.args.sides.now.hi s =
    λ s l. c.mirrored-m.ensures s (omega (arith, l, c.requires.1, c.from-t.ensures)) in
    (two, mirrors, searching-start _ _ _ _ _ _ two mirrors)

pub crossing-l-requires : goal.crossing-l-requires
crossing-l-requires c =
    omega (
      arith,
      left-edge _ _ _ _ _ _ _ _ c.loop-r.invariant.2 (omega arith) c.tangents-left.ensures c.tangents-right.ensures
          c.edge_start-i.ensures c.edge_start-k.ensures c.from-j.ensures c.from-n.ensures,
    )

pub crossing-x-requires : goal.crossing-x-requires
crossing-x-requires c =
    omega (
      arith,
      right-edge _ _ _ _ _ _ _ _ c.loop-r.invariant.2 (omega arith) c.tangents-left.ensures c.tangents-right.ensures
          c.edge_start-i.ensures c.edge_start-k.ensures c.from-j.ensures c.from-n.ensures,
    )

pub display-requires : goal.display-requires
display-requires c =
    let a =
    across-row _ _ _ _ _ _ _ _ c.loop-r.invariant.2 (omega arith) c.tangents-left.ensures c.tangents-right.ensures
    c.edge_start-i.ensures c.edge_start-k.ensures c.from-j.ensures c.from-n.ensures c.crossing-l.ensures.0 c.crossing-x.ensures.0
    c.column-c.ensures in
    omega (arith, a.left, a.right)

pub returns-then-gap : goal.returns-then-gap
returns-then-gap c =
    let s = c.loop-r.invariant.2 in
    rw (sym c.from-b.ensures, sym c.from-t.ensures)
    (answers-found _ _ _ _ _ _ _ _
    (across-row _ _ _ _ _ _ _ _ s (omega arith) c.tangents-left.ensures c.tangents-right.ensures
    c.edge_start-i.ensures c.edge_start-k.ensures c.from-j.ensures c.from-n.ensures c.crossing-l.ensures.0 c.crossing-x.ensures.0
    c.column-c.ensures)
    c.display.result s.clear (sym c.gap.ensures ∙ c.if-gap.true) c.display.ensures)

pub loop-r-preserved : goal.loop-r-preserved
loop-r-preserved c =
    let s = c.loop-r.invariant.2 in (
      c.loop-r.invariant.0,
      c.loop-r.invariant.1,
      searching-next _ _ _ _ _ _ _ _
          (across-row _ _ _ _ _ _ _ _ s (omega arith) c.tangents-left.ensures c.tangents-right.ensures
          c.edge_start-i.ensures c.edge_start-k.ensures c.from-j.ensures c.from-n.ensures c.crossing-l.ensures.0 c.crossing-x.ensures.0
          c.column-c.ensures)
          s.clear (sym c.gap.ensures ∙ c.if-gap.false),
    )

pub returns : goal.returns
returns c =
    rw (sym c.from-b.ensures, sym c.from-t.ensures)
    (answers-none _ _ _ _ _ _ _ _ c.loop-r.i c.loop-r.k c.loop-r.r (omega arith) c.loop-r.invariant.2)
