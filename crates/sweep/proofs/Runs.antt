-- The interval of a row has exactly the inside cells, since its first column and its end
-- come from points on chords, and the cells between are inside.
-- Every row that the edges reach has an edge that goes up through it and one that goes down, or all corner cells are in that row.
use Prim.Native.Nat.{ℕ, zero, suc, ◌+◌, ◌-◌, ◌*◌, ◌≤◌, ◌<◌}
use native.Mathlib.Nat.{le_of_mul-le-mul_left}
use native.Mathlib.Decide.{dec_lt}
use native.Mathlib.Omega.{arith}
use mathlib.Core.Path.{◌≡◌, refl, ap, ◌∙◌, subst₂}
use mathlib.Core.Logic.{◌↔◌}
use mathlib.Core.Bool.{Bool, true, false, cond, and-eq-true_iff}
use mathlib.Core.List.{List, [], ◌∷◌}
use lib.Dec.{ltb}
use lib.IntN.{ℤ, pos, negsuc, ◌+ℤ◌}
use lib.Signed.{le_z}
use borrow.Author.Tests.{ltb-true, lt-ltb}
use Rattle.base.proofs.IntegerOrder.{up, down, AtMost, at-most-iff, not-at-most}
use Rattle.chart.specs.Limits.{side}
use Rattle.convexity.specs.Edges.{Edge}
use Rattle.convexity.specs.Inside.{side_value, col_steps, row_steps, minℤ, maxℤ, lowest_met, highest_met, inside_at}
use Rattle.directions.specs.CornerHull.{Met, start, after}
use Rattle.directions.proofs.Directions.{Least0}
use Rattle.directions.proofs.Means.{Reach, met-row, lowest-least, highest-most}
use Rattle.directions.proofs.Passing.{Passed, passes-iff, Inner, inner}
use Rattle.nesting.specs.Cells.{Polygon, Fit, Holds}
use Rattle.nesting.specs.Rows.{edge_from, edge_to, start_at, end_after}
use Rattle.nesting.proofs.CornerTests.{Place}
use Rattle.nesting.proofs.Means.{inside-parts, within-parts}
use Rattle.nesting.proofs.Runs.{In, side-column, edge_in, in-edge, start-iff, end-iff}
use Rattle.nesting.proofs.Within.{MetBy, corner-place, holds-iff}
use Rattle.sweep.specs.parts.Sweep.{between, row_from, row_to}
use Rattle.sweep.proofs.Through.{turns}
use Rattle.sweep.proofs.Chords.{Passes, Natural, is-ey, side-passes}
use Rattle.sweep.proofs.Between.{leaves-start, leaves-finish, EdgeOf, natural, Chord, NotLeft, NotRight, chords-inside}
use Rattle.sweep.proofs.Items.{FromItem, ToItem, from-item, item_from, to_item, item-to, swept-to-below}

-- ---- numbers: a row that divides an edge's rows as t to m

module _ (x y u v r t m c : ℕ) where
  up-rows : r ≡ y + t → v ≡ y + t + m → m * y + t * v ≡ (m + t) * r
  up-rows e f = rw (e, f) (omega arith)

  up_left : r ≡ y + t → v ≡ y + t + m → Passes v y x u (u * y) (v * x) c r → m * x + t * u ≤ (m + t) * c
  up_left e f h = let k = rw (e, f) at h in omega (arith, k)

  down-rows : r ≡ v + m → y ≡ v + m + t → m * y + t * v ≡ (m + t) * r
  down-rows e f = rw (e, f) (omega arith)

  down-right : r ≡ v + m → y ≡ v + m + t → Passes v y x u (u * y) (v * x) c r → (m + t) * c ≤ m * x + t * u
  down-right e f h = let k = rw (e, f) at h in omega (arith, k)

-- ---- an edge that goes up has no end, and one that goes down has no first column

rising-end : (d b : ℤ) → down d < up d → edge_to d b ≡ side
unfolding edge_to
rising-end (pos zero) b h = absurd (omega arith)
rising-end (pos (suc n)) b h = refl
rising-end (negsuc n) b h = absurd (omega arith)

falling-first : (d b : ℤ) → up d < down d → edge_from d b ≡ 0
unfolding edge_from
falling-first (pos n) b h = absurd (omega arith)
falling-first (negsuc n) b h = refl

between-parts : {y v : ℤ} {r : ℕ} (a b : ℕ) → y ≡ pos a → v ≡ pos b → between y v r ≡ true → (a < r) × (r < b)
unfolding between
between-parts {y} {v} {r} a b e f h =
    let k = (and-eq-true_iff (ltb a r) (ltb r b)).0 (rw (e, f) at h) in
    (ltb-true a r k.0, ltb-true r b k.1)

between-of : {y v : ℤ} {r : ℕ} (a b : ℕ) → y ≡ pos a → v ≡ pos b → a < r → r < b → between y v r ≡ true
unfolding between
between-of {r = r} a b e f h k = rw (e, f) ((and-eq-true_iff (ltb a r) (ltb r b)).1 (lt-ltb a r h, lt-ltb r b k))

-- ---- the extremes are met

reach-low : (ds : List ℤ) (x : ℤ) → Reach ds x (lowest_met ds x)
unfolding lowest_met minℤ
reach-low [] x = Reach.start
reach-low (d ∷ ds) x = go (le_z x (lowest_met ds (x +ℤ d))) (reach-low ds (x +ℤ d))
  where
    go : (s : Bool) → Reach ds (x +ℤ d) (lowest_met ds (x +ℤ d)) → Reach (d ∷ ds) x (cond s x (lowest_met ds (x +ℤ d)))
    go true m = Reach.start
    go false m = Reach.after m

reach-high : (ds : List ℤ) (x : ℤ) → Reach ds x (highest_met ds x)
unfolding highest_met maxℤ
reach-high [] x = Reach.start
reach-high (d ∷ ds) x = go (le_z x (highest_met ds (x +ℤ d))) (reach-high ds (x +ℤ d))
  where
    go : (s : Bool) → Reach ds (x +ℤ d) (highest_met ds (x +ℤ d)) → Reach (d ∷ ds) x (cond s (highest_met ds (x +ℤ d)) x)
    go true m = Reach.after m
    go false m = Reach.start

row-met : (es : List Edge) {x y v : ℤ} → Reach (row_steps es) y v → (u : ℤ) × Met es x y u v
unfolding row_steps
row-met [] {x} Reach.start = (x, start)
row-met ((dx, dy) ∷ es) {x} Reach.start = (x, start)
row-met ((dx, dy) ∷ es) (Reach.after m) = let k = row-met es m in (k.0, after k.1)

col-met : (es : List Edge) {x y u : ℤ} → Reach (col_steps es) x u → (v : ℤ) × Met es x y u v
unfolding col_steps
col-met [] {y = y} Reach.start = (y, start)
col-met ((dx, dy) ∷ es) {y = y} Reach.start = (y, start)
col-met ((dx, dy) ∷ es) (Reach.after m) = let k = col-met es m in (k.0, after k.1)

-- ---- a row of a polygon that passes

module _ (p : Polygon) (fit : Fit p) (r c : ℕ) (l : c < side) where
  abbrev es : List Edge
  es = p.edges

  abbrev X : ℤ
  X = pos p.anchor.col

  abbrev Y : ℤ
  Y = pos p.anchor.row

  -- The side value at the cell, by its columns
  column-side : (ex ey a b : ℤ) →
      let s = side_value ex ey a b (pos 0) (pos r) in
      (down s + down ey * c ≤ up s + up ey * c) ↔ Least0 (side_value ex ey a b (pos c) (pos r))
  column-side ex ey a b =
      let k = side-column ex ey a b (pos r) c in
      ((λ h. omega (arith, k.eq)), λ h. omega (arith, k.eq))

  -- ---- a point at the cell or left of it, and one at the cell or right of it

  abbrev corner-chord : {u v : ℤ} → MetBy p u v → v ≡ pos r → Place u v → Chord p r
  corner-chord {u} {v} m e s =
      let k : MetBy p (pos s.col) (pos r) = rw (s.is_col, e) at m in
      record { x = s.col; y = r; u = s.col; v = r; m = 1; t = 0; one = k; two = k; above_zero = omega arith; rows = omega arith }

  left-chord : FromItem es X Y r c → (k : Chord p r) × NotLeft k c
  unfolding start_at
  left-chord (FromItem.corner {u = u} {v = v} m e h) =
      let s = corner-place p fit m in
      (corner-chord m e s, omega (arith, rw s.is_col at h))
  left-chord (FromItem.edge {ex = ex} {ey = ey} {p = a} {q = b} d e h) =
      let n = natural p fit d in
      let w = between-parts n.y n.v n.is_y n.is_v e in
      let s = side_value ex ey a b (pos 0) (pos r) in
      let top : edge_to ey s ≡ side = rising-end ey s (omega (arith, (is-ey n).eq)) in
      let q = (side-passes n c r).0 ((column-side ex ey a b).0 (in-edge ey s c (h, omega (arith, top)))) in
      let m = n.v - r in
      let t = r - n.y in
      let one = subst₂ (MetBy p) n.is_x n.is_y (leaves-start d) in
      let two = subst₂ (MetBy p) n.is_u n.is_v (leaves-finish d) in (
        record {
          x = n.x;
          y = n.y;
          u = n.u;
          v = n.v;
          m = m;
          t = t;
          one = one;
          two = two;
          above_zero = omega arith;
          rows = up-rows n.x n.y n.u n.v r t m c (omega arith) (omega arith);
        },
        up_left n.x n.y n.u n.v r t m c (omega arith) (omega arith) q,
      )

  right-chord : ToItem es X Y r c → (k : Chord p r) × NotRight k c
  unfolding end_after
  right-chord (ToItem.corner {u = u} {v = v} m e h) =
      let s = corner-place p fit m in
      (corner-chord m e s, omega (arith, rw s.is_col at h))
  right-chord (ToItem.edge {ex = ex} {ey = ey} {p = a} {q = b} d e h) =
      let n = natural p fit d in
      let w = between-parts n.v n.y n.is_v n.is_y e in
      let s = side_value ex ey a b (pos 0) (pos r) in
      let bottom : edge_from ey s ≡ 0 = falling-first ey s (omega (arith, (is-ey n).eq)) in
      let q = (side-passes n c r).0 ((column-side ex ey a b).0 (in-edge ey s c (omega (arith, bottom), h))) in
      let m = r - n.v in
      let t = n.y - r in
      let one = subst₂ (MetBy p) n.is_x n.is_y (leaves-start d) in
      let two = subst₂ (MetBy p) n.is_u n.is_v (leaves-finish d) in (
        record {
          x = n.x;
          y = n.y;
          u = n.u;
          v = n.v;
          m = m;
          t = t;
          one = one;
          two = two;
          above_zero = omega arith;
          rows = down-rows n.x n.y n.u n.v r t m c (omega arith) (omega arith);
        },
        down-right n.x n.y n.u n.v r t m c (omega arith) (omega arith) q,
      )

  run_inside : In (row_from p r) (row_to p r) c → inside_at es X Y (pos c) (pos r) ≡ true
  unfolding row_from row_to
  run_inside h =
      let left = left-chord (from-item r c l es X Y h.0) in
      let right = right-chord (to_item r c l es X Y h.1) in
      chords-inside p fit c left.0 right.0 left.1 right.1

  -- ---- a corner cell or edge at the cell or left of it, and one at the cell or right of it, in a row that the edges reach

  -- An edge that goes up through the row, to it or from it
  rising-item : {ex ey a b : ℤ} {fs : List Edge} (d : EdgeOf p ex ey a b fs) (n : Natural ex ey a b) → n.y ≤ r → r ≤ n.v → n.y < n.v
      → Least0 (side_value ex ey a b (pos c) (pos r)) → FromItem es X Y r c
  unfolding start_at
  rising-item {ex} {ey} {a} {b} d n low high rises h =
      let q = (side-passes n c r).0 h in
      let m = n.v - r in
      let t = r - n.y in
      let k = up_left n.x n.y n.u n.v r t m c (omega arith) (omega arith) q in
      elim (dec_lt n.y r) [
        | no f ↦
            let at : n.y ≡ r = omega arith in
            let z : t ≡ 0 = omega arith in
            FromItem.corner (leaves-start d) (n.is_y
            ∙ ap pos at) (rw n.is_x (le_of_mul-le-mul_left {k = m} (omega (arith, rw z at k)) (omega arith)))
        | yes f ↦
            elim (dec_lt r n.v) [
              | no g ↦
                  let at : n.v ≡ r = omega arith in
                  let z : m ≡ 0 = omega arith in
                  FromItem.corner (leaves-finish d) (n.is_v
                  ∙ ap pos at) (rw n.is_u (le_of_mul-le-mul_left {k = t} (omega (arith, rw z at k)) (omega arith)))
              | yes g ↦
                  FromItem.edge d (between-of n.y n.v n.is_y n.is_v f g)
                  (edge_in ey (side_value ex ey a b (pos 0) (pos r)) c l ((column-side ex ey a b).1 h)).0
            ]
      ]

  falling-item : {ex ey a b : ℤ} {fs : List Edge} (d : EdgeOf p ex ey a b fs) (n : Natural ex ey a b) → n.v ≤ r → r ≤ n.y → n.v < n.y
      → Least0 (side_value ex ey a b (pos c) (pos r)) → ToItem es X Y r c
  unfolding end_after
  falling-item {ex} {ey} {a} {b} d n low high falls h =
      let q = (side-passes n c r).0 h in
      let m = r - n.v in
      let t = n.y - r in
      let k = down-right n.x n.y n.u n.v r t m c (omega arith) (omega arith) q in
      elim (dec_lt r n.y) [
        | no f ↦
            let at : n.y ≡ r = omega arith in
            let z : t ≡ 0 = omega arith in
            let o : c ≤ n.x = le_of_mul-le-mul_left {k = m} (omega (arith, rw z at k)) (omega arith) in
            ToItem.corner (leaves-start d) (n.is_y ∙ ap pos at) (rw n.is_x (omega arith))
        | yes f ↦
            elim (dec_lt n.v r) [
              | no g ↦
                  let at : n.v ≡ r = omega arith in
                  let z : m ≡ 0 = omega arith in
                  let o : c ≤ n.u = le_of_mul-le-mul_left {k = t} (omega (arith, rw z at k)) (omega arith) in
                  ToItem.corner (leaves-finish d) (n.is_v ∙ ap pos at) (rw n.is_u (omega arith))
              | yes g ↦
                  ToItem.edge d (between-of n.v n.y n.is_v n.is_y g f)
                  (edge_in ey (side_value ex ey a b (pos 0) (pos r)) c l ((column-side ex ey a b).1 h)).1
            ]
      ]

  -- The lowest and the highest corner cell
  abbrev bottom : ℤ
  bottom = lowest_met (row_steps es) Y

  abbrev top : ℤ
  top = highest_met (row_steps es) Y

  lowest : (u : ℤ) × MetBy p u bottom
  lowest = row-met es (reach-low (row_steps es) Y)

  highest : (u : ℤ) × MetBy p u top
  highest = row-met es (reach-high (row_steps es) Y)

  passed : Passed es X Y
  passed = (passes-iff es X Y).0 fit.passes

  module _ (e : inside_at es X Y (pos c) (pos r) ≡ true) where
    parts : AtMost bottom (pos r) × AtMost (pos r) top
    parts = within-parts (row_steps es) Y (pos r) (inside-parts es X Y (pos c) (pos r) e).1

    cols : AtMost (lowest_met (col_steps es) X) (pos c) × AtMost (pos c) (highest_met (col_steps es) X)
    cols = within-parts (col_steps es) X (pos c) (inside-parts es X Y (pos c) (pos r) e).0

    inner-here : Inner es X Y (pos c) (pos r)
    inner-here = inner es X Y (pos c) (pos r) (inside-parts es X Y (pos c) (pos r) e).2

    -- An edge goes up to row k, which is r or the next row, from below it
    rises-to : (k : ℕ) → le_z (pos k) bottom ≡ false → le_z (pos k) top ≡ true → r ≤ k → k ≤ r + 1 → FromItem es X Y r c
    rises-to k f t low high =
        let w = turns (λ v. le_z (pos k) v) passed.returns lowest.1 f highest.1 t in
        let n = natural p fit w.leaves in
        let a = not-at-most (pos k) w.q w.before in
        let b = (at-most-iff (pos k) (w.q +ℤ w.ey)).0 w.after in
        let below : n.y < k = omega (arith, a, ap up n.is_y, ap down n.is_y) in
        let above : k ≤ n.v = omega (arith, b, ap up n.is_v, ap down n.is_v) in
        rising-item w.leaves n (omega arith) (omega arith) (omega arith) (inner-here.side _ _ _ _ _ w.leaves)

    -- An edge goes down to row k, which is r or the row before, from above it
    falls-to : (k : ℕ) → le_z top (pos k) ≡ false → le_z bottom (pos k) ≡ true → k ≤ r → r ≤ k + 1 → ToItem es X Y r c
    falls-to k f t low high =
        let w = turns (λ v. le_z v (pos k)) passed.returns highest.1 f lowest.1 t in
        let n = natural p fit w.leaves in
        let a = not-at-most w.q (pos k) w.before in
        let b = (at-most-iff (w.q +ℤ w.ey) (pos k)).0 w.after in
        let above : k < n.y = omega (arith, a, ap up n.is_y, ap down n.is_y) in
        let below : n.v ≤ k = omega (arith, b, ap up n.is_v, ap down n.is_v) in
        falling-item w.leaves n (omega arith) (omega arith) (omega arith) (inner-here.side _ _ _ _ _ w.leaves)

    -- If the edges reach one row only, every corner cell is in it
    flat : {u v : ℤ} → MetBy p u v → AtMost (pos r) bottom → AtMost top (pos r) → v ≡ pos r
    flat {u} {v} m low high =
        let s = corner-place p fit m in
        let a = lowest-least (row_steps es) (met-row m) in
        let b = highest-most (row_steps es) (met-row m) in
        let n : s.row ≡ r = omega (arith, a, b, ap up s.is_row, ap down s.is_row) in
        s.is_row ∙ ap pos n

    left-item : FromItem es X Y r c
    left-item = go (le_z (pos r) bottom) (le_z (pos (r + 1)) top) refl refl
      where
        go : (s t : Bool) → le_z (pos r) bottom ≡ s → le_z (pos (r + 1)) top ≡ t → FromItem es X Y r c
        go false t f g = rises-to r f ((at-most-iff (pos r) top).1 parts.1) (omega arith) (omega arith)
        go true true f g = rises-to (r + 1) (low-fails (le_z (pos (r + 1)) bottom) refl) g (omega arith) (omega arith)
          where
            low-fails : (s : Bool) → le_z (pos (r + 1)) bottom ≡ s → le_z (pos (r + 1)) bottom ≡ false
            low-fails true h = absurd (omega (arith, (at-most-iff (pos (r + 1)) bottom).0 h, parts.0))
            low-fails false h = h
        go true false f g =
            let m = col-met es (reach-low (col_steps es) X) in
            FromItem.corner m.1 (flat m.1 ((at-most-iff (pos r) bottom).0 f) (omega (arith, not-at-most (pos (r + 1)) top g)))
            ((start-iff (lowest_met (col_steps es) X) c).0 cols.0)

    right-item : ToItem es X Y r c
    right-item = go (le_z top (pos r)) (le_z (pos r) bottom) refl refl
      where
        high-fails : (k : ℕ) → k < r → (s : Bool) → le_z top (pos k) ≡ s → le_z top (pos k) ≡ false
        high-fails k h true z = absurd (omega (arith, (at-most-iff top (pos k)).0 z, parts.1))
        high-fails k h false z = z

        go : (s t : Bool) → le_z top (pos r) ≡ s → le_z (pos r) bottom ≡ t → ToItem es X Y r c
        go false t f g = falls-to r f ((at-most-iff bottom (pos r)).1 parts.0) (omega arith) (omega arith)
        go true false f g =
            let s = corner-place p fit lowest.1 in
            let k = not-at-most (pos r) bottom g in
            let some : 0 < r = omega (arith, k, ap up s.is_row, ap down s.is_row) in
            falls-to (r - 1) (high-fails (r - 1) (omega arith) (le_z top (pos (r - 1))) refl)
            ((at-most-iff bottom (pos (r - 1))).1 (omega (arith, k))) (omega arith) (omega arith)
        go true true f g =
            let m = col-met es (reach-high (col_steps es) X) in
            ToItem.corner m.1 (flat m.1 ((at-most-iff (pos r) bottom).0 g) ((at-most-iff top (pos r)).0 f))
            ((end-iff (highest_met (col_steps es) X) c).0 cols.1)

    inside-run : In (row_from p r) (row_to p r) c
    unfolding row_from row_to
    inside-run = (item_from r c l es X Y left-item, item-to r c l es X Y right-item)

  -- The theorem: the interval of a row has exactly the cells of the hull
  pub run_holds : In (row_from p r) (row_to p r) c ↔ Holds p (record { col = c; row = r })
  run_holds =
      let iff = holds-iff p fit c r in
      ((λ h. iff.0 (run_inside h)), λ k. inside-run (iff.1 k))

pub run-below : (p : Polygon) (r : ℕ) → row_to p r ≤ side
unfolding row_to
run-below p r = swept-to-below p.edges (pos p.anchor.col) (pos p.anchor.row) r
