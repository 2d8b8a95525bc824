-- The completion has twice as many letters as the drawing has columns and rows together, because its hull reaches as far left and right as
-- the drawing's cells, and these reach as far as the drawing's corners.
use Prim.Native.Nat.{ℕ, pred, ◌+◌, ◌-◌, ◌*◌, ◌≤◌, ◌<◌}
use mathlib.Core.Path.{◌≡◌, sym, ap, ◌∙◌}
use mathlib.Core.Bool.{true}
use mathlib.Core.Logic.{inl}
use native.Mathlib.Omega.{arith}
use Rattle.base.proofs.Mean.{mean-at-least, mean-at-most}
use Rattle.chart.specs.Limits.{side}
use Rattle.chart.specs.declared.Point.{Point}
use Rattle.chart.specs.Outline.{Outline, at}
use Rattle.lattice.specs.Chart.{size}
use Rattle.lattice.specs.Hull.{InHull}
use Rattle.lattice.specs.Refusals.{Simple}
use Rattle.rows.proofs.Rows.{Rows}
use Rattle.convexity.specs.Clockwise.{block}
use Rattle.completion.specs.HullRows.{hull_left, hull_right}
use Rattle.completion.specs.Complete.{first_cell, past_cell, first_row, past_row, hull_outline, complete}
use Rattle.completion.specs.Sides.{lowest_corner, highest_corner, leftmost_corner, rightmost_corner}
use Rattle.completion.proofs.Folds.{least-is, greatest-is}
use Rattle.completion.proofs.Count.{Least, least-of}
use Rattle.completion.proofs.HullRows.{hull-rows, wider_left, wider_right, Ends, hull-iff}
use Rattle.completion.proofs.BlockEnds.{block-joined, ends}
use Rattle.completion.proofs.Extent.{hull-letters}
use Rattle.completion.proofs.Sides.{col-cell, first-col, last-col, lowest-corner, highest-corner}

module _ (o : Outline) (h : Simple o) where
  abbrev lo : ℕ → ℕ
  lo = first_cell (block o)

  abbrev hi : ℕ → ℕ
  hi = past_cell (block o)

  abbrev mirror : ℕ → ℕ
  mirror s = side - past_cell (block o) s

  abbrev b : ℕ
  b = first_row (block o)

  abbrev t : ℕ
  t = past_row (block o)

  e : Ends (block o) (first_cell (block o)) (past_cell (block o)) (first_row (block o)) (past_row (block o))
  e = ends (block o) (block-joined o h)

  wide : Rows (hull_left lo b t) (hull_right hi b t) (first_row (block o)) (past_row (block o))
  wide = hull-rows lo hi b t e.rows

  -- The rows that begin furthest left and end furthest right, of the block and of the hull
  first-row : Least (first_cell (block o)) (first_row (block o)) (past_row (block o))
  first-row = least-of lo b t e.rows.below

  last_row : Least mirror (first_row (block o)) (past_row (block o))
  last_row = least-of mirror b t e.rows.below

  hull-cell : (c r : ℕ) → b ≤ r → r < t → hull_left lo b t r ≤ c → c < hull_right hi b t r → InHull (block o) (at c r)
  hull-cell c r k l m n = (hull-iff (block o) lo hi b t e (at c r)).1 (record { above = k; below = l; begun = m; before = n })

  -- No cell of the block is further left, and none further right
  cell-left : (c r : ℕ) → block o c r ≡ true → lo first-row.at ≤ c
  cell-left c r m = let k = e.inside (at c r) m in omega (arith, k.begun, first-row.least r k.above k.below)

  cell-right : (c r : ℕ) → block o c r ≡ true → c < hi last_row.at
  cell-right c r m =
      let k = e.inside (at c r) m in
      omega (
        arith,
        k.before,
        last_row.least r k.above k.below,
        e.rows.fits r k.above k.below,
        e.rows.fits last_row.at last_row.low last_row.high,
      )

  hull-left : (x : Point) → InHull (block o) x → lo first-row.at ≤ x.col
  hull-left x k =
      let g = k.triangle in
      mean-at-least g.a g.b g.c x.col k.p.col k.q.col k.t.col (lo first-row.at) g.above_zero g.cols
      (cell-left k.p.col k.p.row k.p_marked) (cell-left k.q.col k.q.row k.q_marked)
      (cell-left k.t.col k.t.row k.t_marked)

  hull-right : (x : Point) → InHull (block o) x → x.col < hi last_row.at
  hull-right x k =
      let g = k.triangle in
      let p = cell-right k.p.col k.p.row k.p_marked in
      let q = cell-right k.q.col k.q.row k.q_marked in
      let r = cell-right k.t.col k.t.row k.t_marked in
      omega (
        arith,
        p,
        mean-at-most g.a g.b g.c x.col k.p.col k.q.col k.t.col (pred (hi last_row.at)) g.above_zero
            g.cols (omega arith) (omega arith) (omega arith),
      )

  module _ (m : Least (hull_left lo b t) (first_row (block o)) (past_row (block o)))
      (n : Least (hull_left mirror b t) (first_row (block o)) (past_row (block o))) where
    left_is : hull_left lo b t m.at ≡ lo first-row.at
    left_is =
        let f = first-row in
        let k =
        hull-left (at (hull_left lo b t m.at) m.at)
        (hull-cell _ m.at m.low m.high (omega arith) (wide.nonempty m.at m.low m.high)) in
        omega (arith, k, m.least f.at f.low f.high, wider_left lo hi b t e.rows f.at f.low f.high)

    right_is : hull_right hi b t n.at ≡ hi last_row.at
    unfolding hull_right
    right_is =
        let f = last_row in
        let nonempty = wide.nonempty n.at n.low n.high in
        let k : pred (hull_right hi b t n.at) < hi last_row.at =
        hull-right (at (pred (hull_right hi b t n.at)) n.at) (hull-cell _ n.at n.low n.high (omega arith) (omega arith))
        in
        let l : hull_left (λ s. side - hi s) b t n.at ≤ hull_left (λ s. side - hi s) b t f.at = n.least f.at f.low f.high in
        omega (arith, nonempty, wider_right lo hi b t e.rows f.at f.low f.high)

  leftmost : leftmost_corner o ≡ lo first-row.at
  unfolding leftmost_corner
  leftmost =
      let f = first-row in
      let nonempty = e.rows.nonempty f.at f.low f.high in
      least-is (λ p a. true) (λ p. p.col) o.start o.letters side (lo f.at)
      (λ n k. let (c, r, d, l, _) = col-cell o h n k in omega (arith, cell-left c r d))
      (inl (first-col o h f.at (e.first f.at f.low f.high)))
      (omega (arith, nonempty, e.rows.fits f.at f.low f.high))

  rightmost : rightmost_corner o ≡ hi last_row.at
  unfolding rightmost_corner
  rightmost =
      let f = last_row in
      let nonempty = e.rows.nonempty f.at f.low f.high in
      greatest-is (λ p a. true) (λ p. p.col) o.start o.letters 0 (hi f.at)
      (λ n k. let (c, r, d, _, l) = col-cell o h n k in omega (arith, cell-right c r d))
      (inl (last-col o h f.at (omega arith) (e.last f.at f.low f.high)))
      (omega arith)

  sized : size (complete o) + 2 * lo first-row.at ≡ 2 * (past_row (block o) - first_row (block o)) + 2 * hi last_row.at
  unfolding complete hull_outline
  sized =
      let m = least-of (hull_left lo b t) b t e.rows.below in
      let n = least-of (hull_left mirror b t) b t e.rows.below in
      ap (λ (x : ℕ). size (hull_outline (block o)) + 2 * x) (sym (left_is m n))
      ∙ hull-letters lo hi b t e.rows m n
      ∙ ap (λ (x : ℕ). 2 * (t - b) + 2 * x) (right_is m n)

  -- Two letters for each column and each row between the extreme corners
  pub complete-count : size (complete o) ≡ 2 * (rightmost_corner o - leftmost_corner o) + 2 * (highest_corner o - lowest_corner o)
  complete-count =
      counted (size (complete o)) (lo first-row.at) (hi last_row.at) (first_row (block o)) (past_row (block o)) (leftmost_corner o)
      (rightmost_corner o) (lowest_corner o) (highest_corner o)
      sized leftmost rightmost (lowest-corner o h) (highest-corner o h) across
    where
      across : lo first-row.at ≤ hi last_row.at
      across =
          let f = first-row in
          omega (arith, cell-right (lo f.at) f.at (e.first f.at f.low f.high))

      counted :
          (z x y u v l r d k : ℕ) → z + 2 * x ≡ 2 * (v - u) + 2 * y → l ≡ x → r ≡ y → d ≡ u → k ≡ v → x ≤ y
          → z ≡ 2 * (r - l) + 2 * (k - d)
      counted z x y u v l r d k p q s w g i = omega arith
