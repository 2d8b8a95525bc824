-- The two passes find the ends of the hull's rows, the rows of W and E reach furthest, and the letters go round the rows from W.
use Prim.Native.Nat.{ℕ, ◌+◌, ◌-◌, ◌*◌, ◌≤◌, ◌<◌}
use mathlib.Core.Path.{◌≡◌, ap}
use mathlib.Core.List.{List}
use native.Mathlib.Omega.{arith}
use Rattle.chart.specs.Limits.{side, corners}
use Rattle.chart.specs.Outline.{Outline}
use Rattle.lattice.specs.Refusals.{Simple}
use Rattle.rows.specs.parts.Rows.{rows}
use Rattle.row_sides.specs.declared.Sides.{Sides}
use Rattle.row_sides.specs.parts.Passed.{Passed}
use Rattle.hull_rows.specs.parts.Ends.{LeftEnds, Lowest}
use Rattle.completion_call.proofs.HullEnds.{HullOf, array-below, Sided, sides, sided-gap, hull-of}
use Rattle.completion_call.proofs.CompletedLaws.{hull-short, hull-room, hull-answers}
use Rattle.completion_call.proofs.write_letters.Goals as goal

-- The two passes, and the rows of W and E
module _ (o : Outline) (h : Simple o) (k : Sides) (b t : ℕ) (p : Passed o k.lo k.en k.hi k.low k.high) (d : b ≡ k.low)
    (e : t ≡ k.high) where
  below : (b < t) × (t ≤ side)
  below = array-below o h k.lo k.en k.hi k.low k.high b t p d e

  module _ (mirrored begins over ends : List ℕ) (l : LeftEnds (rows k.lo) (rows begins) b t)
      (m : (r : ℕ) → r < corners → rows mirrored r ≡ side - rows k.hi r) (n : LeftEnds (rows mirrored) (rows over) b t)
      (z : (r : ℕ) → r < corners → rows ends r ≡ side - rows over r) where
    sided : Sided o h (rows begins) (rows over) (rows ends) b t
    sided = sides o h k.lo k.en k.hi k.low k.high b t p d e mirrored begins over ends l m n z

    hull : (west east x : ℕ) → Lowest (rows begins) b t west → Lowest (rows over) b t east → x ≡ rows ends east - rows begins west
        → HullOf o begins ends b t west (2 * (t - b) + 2 * x)
    hull west east x w v s =
        hull-of o h begins over ends b t west east (2 * (t - b) + 2 * x) sided w v (ap (λ (n : ℕ). 2 * (t - b) + 2 * n) s)

pub left-requires : goal.left-requires
left-requires c = omega (arith, below _ c.requires _ _ _ c.pass-sides.ensures c.from-b.ensures c.from-t.ensures)

pub left-requires-2 : goal.left-requires-2
left-requires-2 c = omega (arith, below _ c.requires _ _ _ c.pass-sides.ensures c.from-b.ensures c.from-t.ensures)

pub lowest-west-requires : goal.lowest-west-requires
lowest-west-requires c = below _ c.requires _ _ _ c.pass-sides.ensures c.from-b.ensures c.from-t.ensures

pub lowest-east-requires : goal.lowest-east-requires
lowest-east-requires c = below _ c.requires _ _ _ c.pass-sides.ensures c.from-b.ensures c.from-t.ensures

pub bounds-ends-east : goal.bounds-ends-east
bounds-ends-east c =
    omega (arith, below _ c.requires _ _ _ c.pass-sides.ensures c.from-b.ensures c.from-t.ensures, c.lowest-east.ensures.high)

pub bounds-begins-west : goal.bounds-begins-west
bounds-begins-west c =
    omega (arith, below _ c.requires _ _ _ c.pass-sides.ensures c.from-b.ensures c.from-t.ensures, c.lowest-west.ensures.high)

pub overflow_sub-ends : goal.overflow_sub-ends
overflow_sub-ends c =
    sided-gap _ c.requires (rows c.left.new.lo) (rows c.left-2.new.lo) (rows c.mirrored-ends.result) c.from-b.result c.from-t.result
    (sided _ c.requires c.pass-sides.result _ _ c.pass-sides.ensures c.from-b.ensures c.from-t.ensures c.mirrored-over.result c.left.new.lo
    c.left-2.new.lo c.mirrored-ends.result c.left.ensures c.mirrored-over.ensures c.left-2.ensures c.mirrored-ends.ensures)
    c.lowest-west.result c.lowest-west.ensures c.lowest-east.result c.lowest-east.ensures

pub returns-then-out-count : goal.returns-then-out-count
returns-then-out-count c =
    hull-short _ c.args.out.now c.requires
    (hull _ c.requires c.pass-sides.result _ _ c.pass-sides.ensures c.from-b.ensures c.from-t.ensures c.mirrored-over.result c.left.new.lo
    c.left-2.new.lo c.mirrored-ends.result c.left.ensures c.mirrored-over.ensures c.left-2.ensures c.mirrored-ends.ensures
    c.lowest-west.result c.lowest-east.result c.from-columns.result c.lowest-west.ensures c.lowest-east.ensures c.from-columns.ensures)
    c.if-out-count.true

pub round-requires-clause-b_le_m : goal.round-requires-clause-b_le_m
round-requires-clause-b_le_m c =
    let rows = below _ c.requires _ _ _ c.pass-sides.ensures c.from-b.ensures c.from-t.ensures in
    (c.lowest-west.ensures.low, c.lowest-west.ensures.high, rows.1)

pub round-requires-clause-m_in_bounds : goal.round-requires-clause-m_in_bounds
round-requires-clause-m_in_bounds c =
    hull-room _ c.args.out.now c.requires
    (hull _ c.requires c.pass-sides.result _ _ c.pass-sides.ensures c.from-b.ensures c.from-t.ensures c.mirrored-over.result c.left.new.lo
    c.left-2.new.lo c.mirrored-ends.result c.left.ensures c.mirrored-over.ensures c.left-2.ensures c.mirrored-ends.ensures
    c.lowest-west.result c.lowest-east.result c.from-columns.result c.lowest-west.ensures c.lowest-east.ensures c.from-columns.ensures)
    c.if-out-count.false

pub bounds-begins-west-2 : goal.bounds-begins-west-2
bounds-begins-west-2 c =
    omega (arith, below _ c.requires _ _ _ c.pass-sides.ensures c.from-b.ensures c.from-t.ensures, c.lowest-west.ensures.high)

pub overflow_cast-result : goal.overflow_cast-result
overflow_cast-result c =
    let f =
    hull _ c.requires c.pass-sides.result _ _ c.pass-sides.ensures c.from-b.ensures c.from-t.ensures c.mirrored-over.result c.left.new.lo
    c.left-2.new.lo c.mirrored-ends.result c.left.ensures c.mirrored-over.ensures c.left-2.ensures c.mirrored-ends.ensures
    c.lowest-west.result c.lowest-east.result c.from-columns.result c.lowest-west.ensures c.lowest-east.ensures c.from-columns.ensures in
    omega (arith, f.short)

pub returns : goal.returns
returns c =
    hull-answers _ c.args.out.now c.requires
    (hull _ c.requires c.pass-sides.result _ _ c.pass-sides.ensures c.from-b.ensures c.from-t.ensures c.mirrored-over.result c.left.new.lo
    c.left-2.new.lo c.mirrored-ends.result c.left.ensures c.mirrored-over.ensures c.left-2.ensures c.mirrored-ends.ensures
    c.lowest-west.result c.lowest-east.result c.from-columns.result c.lowest-west.ensures c.lowest-east.ensures c.from-columns.ensures)
    _ c.if-out-count.false c.round.ensures
