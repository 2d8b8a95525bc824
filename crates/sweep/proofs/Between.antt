-- A cell between two points of its row, each on a chord between corner cells, is inside,
-- since each edge has both ends of one chord on its inner side.
-- An edge that does not go down also has the left chord's point, and what is right of it, on its inner side. For an edge that goes down
-- the same holds with the right chord.
use Prim.Native.Nat.{ℕ, ◌+◌, ◌*◌, ◌≤◌, ◌<◌}
use native.Mathlib.Nat.{mul-le-mul_left}
use native.Mathlib.Decide.{dec_le}
use native.Mathlib.Omega.{arith}
use mathlib.Core.Path.{◌≡◌, refl}
use mathlib.Core.Logic.{◌⊎◌, inl, inr}
use mathlib.Core.Bool.{true}
use mathlib.Core.List.{List}
use lib.IntN.{ℤ, pos, ◌+ℤ◌}
use Rattle.base.proofs.IntegerOrder.{AtMost}
use Rattle.convexity.specs.Edges.{Edge}
use Rattle.convexity.specs.Inside.{col_steps, row_steps, lowest_met, highest_met, inside_at}
use Rattle.directions.specs.CornerHull.{Met, start, after}
use Rattle.directions.proofs.Corners.{Leaves, first, later}
use Rattle.directions.proofs.Passing.{Passed, passes-iff, Inner, none-outside, corner-inner}
use Rattle.directions.proofs.Means.{Reach, met-col, met-row, lowest-least, highest-most}
use Rattle.nesting.specs.Cells.{Polygon, Fit}
use Rattle.nesting.proofs.Means.{inside-of-parts, within_of}
use Rattle.nesting.proofs.Within.{MetBy, corner-place}
use Rattle.sweep.proofs.Chords.{Passes, grows, falls, Natural, side-passes}

-- ---- the ends of an edge are corner cells

pub leaves-start : {es fs : List Edge} {x y ex ey p q : ℤ} → Leaves es x y ex ey p q fs → Met es x y p q
leaves-start first = start
leaves-start (later l) = after (leaves-start l)

pub leaves-finish : {es fs : List Edge} {x y ex ey p q : ℤ} → Leaves es x y ex ey p q fs → Met es x y (p +ℤ ex) (q +ℤ ey)
leaves-finish first = after start
leaves-finish (later l) = after (leaves-finish l)

-- The edges of a polygon
abbrev pub EdgeOf : Polygon → ℤ → ℤ → ℤ → ℤ → List Edge → Type 0
EdgeOf p ex ey a b fs = Leaves p.edges (pos p.anchor.col) (pos p.anchor.row) ex ey a b fs

module _ (p : Polygon) (fit : Fit p) where
  pub natural : {ex ey a b : ℤ} {fs : List Edge} → EdgeOf p ex ey a b fs → Natural ex ey a b
  natural l =
      let s = corner-place p fit (leaves-start l) in
      let t = corner-place p fit (leaves-finish l) in
      record { x = s.col; y = s.row; u = t.col; v = t.row; is_x = s.is_col; is_y = s.is_row; is_u = t.is_col; is_v = t.is_row }

-- ---- chords

-- The point of row r that divides the chord between two corner cells as t to m: m + t
-- times its column is m times one column plus t times the other
pub record Chord (p : Polygon) (r : ℕ) : Type 0 where
  pub x : ℕ
  pub y : ℕ
  pub u : ℕ
  pub v : ℕ
  pub m : ℕ
  pub t : ℕ
  pub one : MetBy p (pos x) (pos y)
  pub two : MetBy p (pos u) (pos v)
  pub above_zero : 0 < m + t
  pub rows : m * y + t * v ≡ (m + t) * r

-- A cell of the row is not left, or not right, of the point
abbrev pub NotLeft : {p : Polygon} {r : ℕ} → Chord p r → ℕ → Type 0
NotLeft k c = k.m * k.x + k.t * k.u ≤ (k.m + k.t) * c

abbrev pub NotRight : {p : Polygon} {r : ℕ} → Chord p r → ℕ → Type 0
NotRight k c = (k.m + k.t) * c ≤ k.m * k.x + k.t * k.u

-- If a mean is at most c, so is one of the numbers; the same for at least c
not-above : (m t x u c : ℕ) → 0 < m + t → m * x + t * u ≤ (m + t) * c → (x ≤ c) ⊎ (u ≤ c)
not-above m t x u c some l =
    elim (dec_le x c) [
      | yes h ↦ inl h
      | no h ↦
          elim (dec_le u c) [
            | yes k ↦ inr k
            | no k ↦
                let a : c + 1 ≤ x = omega arith in
                let b : c + 1 ≤ u = omega arith in
                absurd (omega (arith, mul-le-mul_left m a, mul-le-mul_left t b))
          ]
    ]

not-below : (m t x u c : ℕ) → 0 < m + t → (m + t) * c ≤ m * x + t * u → (c ≤ x) ⊎ (c ≤ u)
not-below m t x u c some l =
    elim (dec_le c x) [
      | yes h ↦ inl h
      | no h ↦
          elim (dec_le c u) [
            | yes k ↦ inr k
            | no k ↦
                let a : x + 1 ≤ c = omega arith in
                let b : u + 1 ≤ c = omega arith in
                absurd (omega (arith, mul-le-mul_left m a, mul-le-mul_left t b))
          ]
    ]

module _ (p : Polygon) (fit : Fit p) {r : ℕ} (c : ℕ) (left right : Chord p r) (l : NotLeft left c) (h : NotRight right c) where
  abbrev es : List Edge
  es = p.edges

  abbrev X : ℤ
  X = pos p.anchor.col

  abbrev Y : ℤ
  Y = pos p.anchor.row

  passed : Passed es X Y
  passed = (passes-iff es X Y).0 fit.passes

  -- A corner cell passes the test of an edge
  corner-passes : {ex ey a b : ℤ} {fs : List Edge} (e : EdgeOf p ex ey a b fs) {c r : ℕ} → MetBy p (pos c) (pos r) →
      let n = natural p fit e in
      Passes n.v n.y n.x n.u (n.u * n.y) (n.v * n.x) c r
  corner-passes e {c} {r} m = (side-passes (natural p fit e) c r).0 ((corner-inner passed m).side _ _ _ _ _ e)

  chords-inner : Inner es X Y (pos c) (pos r)
  chords-inner = record { side = λ ex ey a b fs e. (side-passes (natural p fit e) c r).1 (go e) }
    where
      go : {ex ey a b : ℤ} {fs : List Edge} (e : EdgeOf p ex ey a b fs) →
          let n = natural p fit e in
          Passes n.v n.y n.x n.u (n.u * n.y) (n.v * n.x) c r
      go e =
          let n = natural p fit e in
          elim (dec_le n.y n.v) [
            | yes k ↦
                grows n.v n.y n.x n.u (n.u * n.y) (n.v * n.x) left.x left.y left.u left.v left.m left.t
                (left.m + left.t) r _
                refl left.rows refl c left.above_zero k l (corner-passes e left.one) (corner-passes e left.two)
            | no k ↦
                falls n.v n.y n.x n.u (n.u * n.y) (n.v * n.x) right.x right.y right.u right.v right.m
                right.t (right.m + right.t) r _
                refl right.rows refl c right.above_zero (omega arith) h (corner-passes e right.one) (corner-passes e right.two)
          ]

  -- Between the extremes
  low_by : (ds : List ℤ) (z : ℤ) (x u c : ℕ) → Reach ds z (pos x) → Reach ds z (pos u) → (x ≤ c) ⊎ (u ≤ c) → AtMost (lowest_met ds z) (pos c)
  low_by ds z x u c a b (inl k) = omega (arith, lowest-least ds a)
  low_by ds z x u c a b (inr k) = omega (arith, lowest-least ds b)

  high-by : (ds : List ℤ) (z : ℤ) (x u c : ℕ) → Reach ds z (pos x) → Reach ds z (pos u) → (c ≤ x) ⊎ (c ≤ u)
      → AtMost (pos c) (highest_met ds z)
  high-by ds z x u c a b (inl k) = omega (arith, highest-most ds a)
  high-by ds z x u c a b (inr k) = omega (arith, highest-most ds b)

  pub chords-inside : inside_at es X Y (pos c) (pos r) ≡ true
  chords-inside =
      inside-of-parts es X Y (pos c) (pos r)
      (within_of (col_steps es) X (pos c)
      (low_by (col_steps es) X left.x left.u c (met-col left.one) (met-col left.two)
      (not-above left.m left.t left.x left.u c left.above_zero l))
      (high-by (col_steps es) X right.x right.u c (met-col right.one) (met-col right.two)
      (not-below right.m right.t right.x right.u c right.above_zero h)))
      (within_of (row_steps es) Y (pos r)
      (low_by (row_steps es) Y left.y left.v r (met-row left.one) (met-row left.two)
      (not-above left.m left.t left.y left.v r left.above_zero (omega (arith, left.rows))))
      (high-by (row_steps es) Y left.y left.v r (met-row left.one) (met-row left.two)
      (not-below left.m left.t left.y left.v r left.above_zero (omega (arith, left.rows)))))
      (none-outside es X Y (pos c) (pos r) chords-inner)
