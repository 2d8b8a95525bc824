-- The fan of triangles from the anchor: with three side values as weights, the mean of a triangle's corners is the cell.
use Prim.Native.Nat.{ℕ, ◌+◌, ◌*◌}
use native.Mathlib.Omega.{arith}
use mathlib.Core.Path.{◌≡◌, refl, ap}
use mathlib.Core.List.{List}
use lib.IntN.{ℤ, pos, negsuc, neg_ℤ, ◌+ℤ◌, ◌-ℤ◌, ◌*ℤ◌, *ℤ_comm}
use Rattle.convexity.specs.Edges.{Edge}
use Rattle.convexity.specs.Inside.{side_value}
use Rattle.directions.specs.Round.{cross}
use Rattle.directions.specs.CornerHull.{Met, InCornerHull}
use Rattle.base.proofs.IntegerOrder.{up, down}
use Rattle.base.proofs.Differences.{Is, is-self, is_eq, is-unique, is-neg, is-add, is-minus, is_mul}
use Rattle.base.proofs.IntegerRing.{times-assoc, times-left, minus-times, minus-shared-end, minus-shared-start, minus-step, there_and_back}
use Rattle.base.proofs.IntegerRing.{opposite-way}
use Rattle.directions.proofs.Cross.{is-cross, side-cross, side-step, nil-difference, cross-swap, cross-back, cross-step}
use Rattle.directions.proofs.Directions.{Above, Least0, Most0}
use Rattle.directions.proofs.Means.{Meanℤ, mean-of, mean-same, mean-minus}

-- ---- one triangle

-- (A × d)·p = (A × p)·d − (d × p)·A, in columns and in rows
cramer-col :
    (ax ay dx dy px py : ℤ) → cross ax ay dx dy *ℤ px ≡ cross ax ay px py *ℤ dx -ℤ cross dx dy px py *ℤ ax
unfolding cross
cramer-col ax ay dx dy px py = simp (minus-times, times-assoc, *ℤ_comm, times-left, minus-shared-end)

cramer-row :
    (ax ay dx dy px py : ℤ) → cross ax ay dx dy *ℤ py ≡ cross ax ay px py *ℤ dy -ℤ cross dx dy px py *ℤ ay
unfolding cross
cramer-row ax ay dx dy px py = simp (minus-times, times-assoc, *ℤ_comm, times-left, minus-shared-start)

-- An integer that is not below 0 has no negative part, and one that is not above 0 has no positive part
pub least-down : (z : ℤ) → Least0 z → down z ≡ 0
least-down (pos n) h = refl
least-down (negsuc n) h = absurd (omega arith)

most-up : (z : ℤ) → Most0 z → up z ≡ 0
most-up (pos n) h = omega arith
most-up (negsuc n) h = refl

-- The vector from the anchor to the cell is a mean of zero, the vector to a corner cell and the vector to the next one
fan-mean :
    {w i j k : ℕ} {b e f : ℤ} (p d a : ℤ) → w ≡ i + j + k → Is b w 0 → Is f k 0 → Is e 0 (j + k) → b *ℤ p ≡ f *ℤ d -ℤ e *ℤ a
    → Meanℤ w i j k p (pos 0) a (a +ℤ d)
fan-mean {w} {i} {j} {k} p d a s hb hf he eq =
    let l = is_eq (is_mul hb (is-self p)) (is-minus (is_mul hf (is-self d)) (is_mul he (is-self a))) eq in
    let m = ap (λ (n : ℕ). k * n) (is-add (is-self a) (is-self d)).eq in
    mean-of (omega (arith, l, m))

-- From vectors that start at the anchor to cells
pub shift_back : {w i j k : ℕ} (x c u d : ℤ) → w ≡ i + j + k → Meanℤ w i j k (c -ℤ x) (pos 0) (u -ℤ x) ((u -ℤ x) +ℤ d)
    → Meanℤ w i j k c x u (u +ℤ d)
shift_back x c u d e h =
    let back : (z : ℤ) → (z -ℤ x) -ℤ neg_ℤ x ≡ z =
    λ z. is-unique (is-minus (is-minus (is-self z) (is-self x)) (is-neg (is-self x))) (is-self z) (omega arith) in
    let nil : pos 0 -ℤ neg_ℤ x ≡ x = is-unique (is-minus (is-self (pos 0)) (is-neg (is-self x))) (is-self x) (omega arith) in
    rw (back c, nil, back u, ← (minus-step u d x), back (u +ℤ d)) at (mean-minus h (mean-same (neg_ℤ x) e))

module _ (x y c r : ℤ) where
  -- Above 0 if the cell lies clockwise of the corner cell (u, v), seen from the anchor
  unfoldable pub Seen : ℤ → ℤ → ℤ
  Seen u v = cross (u -ℤ x) (v -ℤ y) (c -ℤ x) (r -ℤ y)

  module _ (u v dx dy : ℤ) where
    -- The cross product of the edge with the vector to the cell
    abbrev ToCell : ℤ
    ToCell = cross dx dy (c -ℤ x) (r -ℤ y)

    pub seen_step : Is (Seen (u +ℤ dx) (v +ℤ dy)) (up (Seen u v) + up ToCell) (down (Seen u v) + down ToCell)
    unfolding Seen
    seen_step = rw (minus-step u dx x, minus-step v dy y) (cross-step (u -ℤ x) (v -ℤ y) dx dy (c -ℤ x) (r -ℤ y))

    cell-step : Is (side_value dx dy u v c r) (up (side_value dx dy u v x y) + up ToCell) (down (side_value dx dy u v x y) + down ToCell)
    cell-step = rw (there_and_back x c, there_and_back y r) at (side-step dx dy u v x y (c -ℤ x) (r -ℤ y))

    -- The sum of the three weights is the anchor's side value
    pub fan-sum :
        Is (side_value dx dy u v x y) (up (side_value dx dy u v c r) + down (Seen (u +ℤ dx) (v +ℤ dy)) + up (Seen u v))
        (down (side_value dx dy u v c r) + up (Seen (u +ℤ dx) (v +ℤ dy)) + down (Seen u v))
    fan-sum = record { eq = omega (arith, seen_step.eq, cell-step.eq) }

    -- The anchor's side value is twice the triangle's area
    area : Is (cross (u -ℤ x) (v -ℤ y) dx dy) (up (side_value dx dy u v x y)) (down (side_value dx dy u v x y))
    area =
        rw (side-cross dx dy u v x y, opposite-way x u, opposite-way y v)
        (record { eq = omega (arith, (cross-back dx dy (u -ℤ x) (v -ℤ y)).eq, (cross-swap dx dy (u -ℤ x) (v -ℤ y)).eq) })

    -- The cell is in the triangle of the anchor, the corner cell (u, v) and the next one
    pub triangle :
        {es : List Edge} → Met es x y u v → Met es x y (u +ℤ dx) (v +ℤ dy) → Least0 (side_value dx dy u v c r)
        → Most0 (Seen (u +ℤ dx) (v +ℤ dy)) → Least0 (Seen u v)
        → Above (side_value dx dy u v x y) → InCornerHull es x y c r
    unfolding Seen
    triangle m m' s n l g =
        let i = up (side_value dx dy u v c r) in
        let j = down (Seen (u +ℤ dx) (v +ℤ dy)) in
        let k = up (Seen u v) in
        let s0 = least-down (side_value dx dy u v c r) s in
        let n0 = most-up (Seen (u +ℤ dx) (v +ℤ dy)) n in
        let l0 = least-down (Seen u v) l in
        let hb : Is (cross (u -ℤ x) (v -ℤ y) dx dy) (i + j + k) 0 = record { eq = omega (arith, area.eq, fan-sum.eq) } in
        let hf : Is (Seen u v) k 0 = record { eq = omega arith } in
        let he : Is ToCell 0 (j + k) = record { eq = omega (arith, seen_step.eq) } in
        record {
          p = record { col = x; row = y; met = Met.start };
          q = record { col = u; row = v; met = m };
          t = record { col = u +ℤ dx; row = v +ℤ dy; met = m' };
          i = i;
          j = j;
          k = k;
          above_zero = omega (arith, fan-sum.eq);
          cols =
              (shift_back x c u dx refl (fan-mean (c -ℤ x) dx (u -ℤ x) refl hb hf he (cramer-col (u -ℤ x) (v -ℤ y) dx dy (c -ℤ x) (r -ℤ y)))
              ).is;
          rows =
              (shift_back y r v dy refl (fan-mean (r -ℤ y) dy (v -ℤ y) refl hb hf he (cramer-row (u -ℤ x) (v -ℤ y) dx dy (c -ℤ x) (r -ℤ y)))
              ).is;
        }

  -- The anchor itself
  pub seen-anchor : Is (Seen x y) 0 0
  unfolding Seen
  seen-anchor = record { eq = omega (arith, (is-cross (nil-difference x) (nil-difference y) (is-self (c -ℤ x)) (is-self (r -ℤ y))).eq) }
