-- Two polygons have a common cell exactly if their intervals meet in some row of the chart:
-- every cell of a polygon with corner cells on the chart is on the chart.
use Prim.Native.Nat.{ℕ, ◌<◌, min, max, ◌-◌}
use native.Mathlib.Omega.{arith}
use mathlib.Core.Path.{◌≡◌, refl}
use mathlib.Core.Logic.{◌↔◌}
use mathlib.Core.Bool.{true}
use lib.IntN.{ℤ, pos}
use borrow.Author.Tests.{ltb-true, lt-ltb}
use Rattle.chart.specs.Limits.{side}
use Rattle.base.specs.Below.{some_below, first}
use Rattle.base.proofs.BelowLaws.{first_found, some_of}
use Rattle.base.proofs.IntegerOrder.{AtMost}
use Rattle.directions.proofs.Means.{Meanℤ, mean-high}
use Rattle.nesting.specs.Cells.{Polygon, Fit, Holds, Common}
use Rattle.nesting.specs.Rows.{run_from, run_to, row_meets, rows_meet}
use Rattle.nesting.proofs.CornerTests.{Place}
use Rattle.nesting.proofs.Within.{MetBy, corner-place, holds-iff}
use Rattle.nesting.proofs.Runs.{row-run, run-below}

-- ---- a cell of the hull is on the chart

module _ (p : Polygon) (fit : Fit p) where
  corner-low : {u v : ℤ} → MetBy p u v → AtMost u (pos (side - 1)) × AtMost v (pos (side - 1))
  corner-low {u} {v} m = go (corner-place p fit m)
    where
      go : Place u v → AtMost u (pos (side - 1)) × AtMost v (pos (side - 1))
      go s = rw (s.is_col, s.is_row) (omega (arith, s.col_below, s.row_below))

  pub held_below : (c r : ℕ) → Holds p (record { col = c; row = r }) → (c < side) × (r < side)
  held_below c r h =
      let cols : Meanℤ _ _ _ _ (pos c) h.p.col h.q.col h.t.col = record { is = h.cols } in
      let rows : Meanℤ _ _ _ _ (pos r) h.p.row h.q.row h.t.row = record { is = h.rows } in
      let p = corner-low h.p.met in
      let q = corner-low h.q.met in
      let t = corner-low h.t.met in
      omega (
        arith,
        mean-high h.above_zero refl (pos (side - 1)) cols p.0 q.0 t.0,
        mean-high h.above_zero refl (pos (side - 1)) rows p.1 q.1 t.1,
      )

-- ---- the theorem

-- A row of the chart in which the intervals meet
pub record MeetingRow (p q : Polygon) : Type 0 where
  pub row : ℕ
  pub below : row < side
  pub meets : max (run_from p row) (run_from q row) < min (run_to p row) (run_to q row)

module _ (p q : Polygon) (one : Fit p) (two : Fit q) where
  row_common : MeetingRow p q → Common (Holds p) (Holds q)
  row_common m =
      let r = m.row in
      let c = max (run_from p r) (run_from q r) in
      let l : c < side = omega (arith, m.meets, run-below p r) in
      record {
        cell = record { col = c; row = r };
        in_first = (holds-iff p one c r).0 ((row-run p r c l).1 (omega (arith, m.meets)));
        in_second = (holds-iff q two c r).0 ((row-run q r c l).1 (omega (arith, m.meets)));
      }

  common-row : Common (Holds p) (Holds q) → MeetingRow p q
  common-row k =
      let c = k.cell.col in
      let r = k.cell.row in
      let l = held_below p one c r k.in_first in
      let s = (row-run p r c l.0).0 ((holds-iff p one c r).1 k.in_first) in
      let t = (row-run q r c l.0).0 ((holds-iff q two c r).1 k.in_second) in
      record { row = r; below = l.1; meets = omega (arith, s.0, s.1, t.0, t.1) }

  pub meet-iff-rows : Common (Holds p) (Holds q) ↔ MeetingRow p q
  meet-iff-rows = (common-row, row_common)

  -- As a test
  test-row : rows_meet p q ≡ true → MeetingRow p q
  unfolding rows_meet some_below row_meets
  test-row e =
      let l = ltb-true _ _ e in
      record { row = first (row_meets p q) side; below = l; meets = ltb-true _ _ (first_found (row_meets p q) side l) }

  row-test : MeetingRow p q → rows_meet p q ≡ true
  unfolding rows_meet some_below row_meets
  row-test m = some_of (row_meets p q) side m.row m.below (lt-ltb _ _ m.meets)

  pub meet-iff-test : (rows_meet p q ≡ true) ↔ Common (Holds p) (Holds q)
  meet-iff-test = ((λ e. row_common (test-row e)), λ k. row-test (common-row k))
