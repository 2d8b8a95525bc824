-- The edge that is found goes across the current row, which then begins where the hull does.
use Prim.Native.Nat.{suc, ◌-◌, ◌≤◌, ◌<◌}
use mathlib.Core.Path.{◌≡◌, refl, ◌∙◌}
use Rattle.rows.specs.parts.Rows.{rows}
use Rattle.completion.specs.HullRows.{next_row}
use Rattle.hull_rows.proofs.Laws.{Spanning, climbing-edge, spanning-two, spanning-low, spanning-end, Leftward, leftward-start}
use Rattle.hull_rows.proofs.Laws.{leftward-corner, leftward-next}
use native.Mathlib.Omega.{arith}
use Rattle.hull_rows.proofs.left.Goals as goal

pub tangents-next-requires : goal.tangents-next-requires
tangents-next-requires c = omega (arith, c.requires)

pub loop-r-init : goal.loop-r-init
loop-r-init c =
    let args = c.args in
    let fits : args.t ≤ 256 = omega (arith, c.requires) in (
      fits,
      leftward-start (rows args.lo.now) args.b args.t fits args.lo.now c.requires.0
          c.requires.1 (λ s. refl),
    )

pub edge_start-i-requires : goal.edge_start-i-requires
edge_start-i-requires c = let iteration = c.loop-r.invariant in
    omega (arith, iteration.1.climbing.above, iteration.1.high, iteration.0)

-- The edge that is found goes across the current row
record Found (c : goal.After-edge_start-i) : Type 0 where
  low : c.args.b ≤ c.edge_start-i.result
  high : suc c.edge_start-i.result < c.args.t
  spans : Spanning (rows c.args.lo.now)
      c.args.b c.args.t
      c.edge_start-i.result c.loop-r.r
  corner : rows c.loop-r.lo c.edge_start-i.result
      ≡ rows c.args.lo.now c.edge_start-i.result

found : (c : goal.After-edge_start-i) → Found c
found c =
    let args = c.args in
    let start = rows args.lo.now in
    let iteration = c.loop-r in
    let climbing = iteration.invariant.1.climbing in
    let next =
    c.tangents-next.ensures.furthest_left iteration.i climbing.climbed.low
    (omega (arith, climbing.above)) in
    let l : iteration.r < args.t = c.loop-r-test.true in
    let s =
    climbing-edge start args.b args.t iteration.i iteration.r _ c.edge_start-i.result climbing l next
    c.edge_start-i.ensures in
    record {
      low = spanning-low start args.b args.t c.edge_start-i.result iteration.r s l;
      high = spanning-two start args.b args.t c.edge_start-i.result iteration.r s l;
      spans = s;
      corner =
          leftward-corner start args.b args.t iteration.invariant.0 iteration.lo iteration.i iteration.r iteration.invariant.1 l
          c.edge_start-i.result _ next c.edge_start-i.ensures;
    }

-- The row that is read is the one where it ends
record Read (c : goal.After-from-j) : Type 0 where
  ends : (c.edge_start-i.result < c.loop-r.r)
      × (c.loop-r.r ≤ c.from-j.result)
      × (c.from-j.result < c.args.t)
  at : c.from-j.result ≡ next_row (rows c.args.lo.now)
      c.args.t c.edge_start-i.result

read : (c : goal.After-from-j) → Read c
read c =
    let f = found c.before in
    let args = c.args in
    let e = c.from-j.ensures
    ∙ c.tangents-next.ensures.furthest_left c.edge_start-i.result f.low f.high in
    record {
      ends =
          spanning-end (rows args.lo.now) args.b args.t c.edge_start-i.result
          c.loop-r.r f.spans c.loop-r-test.true c.from-j.result e;
      at = e;
    }

pub offset_bounds-next-i : goal.offset_bounds-next-i
offset_bounds-next-i c = omega (arith, (found c).high, c.loop-r.invariant.0)

pub bounds-next-i : goal.bounds-next-i
bounds-next-i c = omega (arith, (found c).high, c.loop-r.invariant.0)

pub crossing-column-requires : goal.crossing-column-requires
crossing-column-requires c = omega (arith, (read c).ends, c.loop-r.invariant.0)

pub loop-r-preserved : goal.loop-r-preserved
loop-r-preserved c =
    let f = found c.before.before.before in
    let args = c.args in
    let iteration = c.loop-r in (
      iteration.invariant.0,
      leftward-next (rows args.lo.now) args.b args.t iteration.invariant.0 iteration.lo iteration.i iteration.r
          iteration.invariant.1 c.loop-r-test.true c.edge_start-i.result
          f.spans c.from-j.result c.crossing-column.result f.corner (read c.before.before).at
          c.crossing-column.ensures.0,
    )

pub returns : goal.returns
returns c = record { ends = λ r h l. c.loop-r.invariant.1.passed r h (omega (arith, c.loop-r.invariant.1.high)) }
