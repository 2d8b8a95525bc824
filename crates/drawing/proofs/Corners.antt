-- If a walk stays on the chart, its points are its corner cells: each line leads to the next one, and both have the same hull.
use Prim.Native.Nat.{ℕ, ◌+◌, ◌*◌}
use mathlib.Core.Path.{◌≡◌, refl, sym, ap, ap₂, subst, subst₂}
use mathlib.Core.Logic.{◌↔◌, ⊎_elim}
use mathlib.Core.List.Memᴰ
use mathlib.Core.List.{List, [], ◌∷◌, ◌++◌, map, Memᴰ}
use lib.IntN.{ℤ, pos, nat_abs, ◌+ℤ◌, ◌*ℤ◌}
use Rattle.chart.specs.declared.Point.{Point}
use Rattle.convexity.specs.Edges.{Edge, pairs}
use Rattle.convexity.specs.Inside.{col_steps, row_steps}
use Rattle.convexity.proofs.Signed.{reached}
use Rattle.convexity.proofs.Inside.{IsCell}
use Rattle.directions.specs.CornerHull.{is_on_chart, Met, start, after, CornersHold}
use Rattle.directions.proofs.OnChart.{number-on}
use Rattle.drawing.specs.Drawing.{a_line, line_to, lines_from}
use Rattle.drawing.specs.Claims.{Cell, cell_of, corners_from, corners, again, InHullOf}

-- ---- a cell of the chart

abbrev point : ℤ → ℤ → Point
point u v = record { col = nat_abs u; row = nat_abs v }

line-cell : {u v : ℤ} → IsCell u v → line_to u v ≡ a_line (point u v)
unfolding line_to is_on_chart
line-cell c = rw (c.col-is, c.row_is, number-on _ c.col-on, number-on _ c.row_on)

point-cell : {u v : ℤ} → IsCell u v → cell_of (point u v) ≡ (u, v)
point-cell c = rw (c.col-is, c.row_is)

-- ---- the lines

-- The cells where the edges end, without the last
unfoldable pub ends_from : List Edge → ℤ → ℤ → List Point
ends_from [] x y = []
ends_from (d ∷ []) x y = []
ends_from ((dx, dy) ∷ e ∷ es) x y = point (x +ℤ dx) (y +ℤ dy) ∷ ends_from (e ∷ es) (x +ℤ dx) (y +ℤ dy)

-- Every corner cell is on the chart
abbrev pub Stays : List Edge → ℤ → ℤ → Type 0
Stays es x y = (u v : ℤ) → Met es x y u v → IsCell u v

pub lines_are : (es : List Edge) (x y : ℤ) → Stays es x y → lines_from es x y ≡ map a_line (ends_from es x y)
unfolding lines_from ends_from
lines_are [] x y s = refl
lines_are (d ∷ []) x y s = refl
lines_are ((dx, dy) ∷ e ∷ es) x y s =
    ap₂ ◌∷◌ (line-cell (s _ _ (after start))) (lines_are (e ∷ es) (x +ℤ dx) (y +ℤ dy) (λ u v m. s u v (after m)))

-- After an edge: the ends, and where the walk arrives
corners-behind :
    (dx dy : ℤ) (es : List Edge) (x y : ℤ) → Stays ((dx, dy) ∷ es) x y
    → corners_from es (x +ℤ dx) (y +ℤ dy)
    ≡ map cell_of (ends_from ((dx, dy) ∷ es) x y) ++ ((reached (col_steps es) (x +ℤ dx), reached (row_steps es) (y +ℤ dy)) ∷ [])
unfolding corners_from ends_from col_steps row_steps reached
corners-behind dx dy [] x y s = refl
corners-behind dx dy ((ex, ey) ∷ es) x y s =
    ap₂ ◌∷◌ (sym (point-cell (s _ _ (after start)))) (corners-behind ex ey es (x +ℤ dx) (y +ℤ dy) (λ u v m. s u v (after m)))

-- The anchor and the ends are the corner cells without the last, which is the anchor again
pub corners-are :
    (a : Point) (es : List Edge) → Stays es (pos a.col) (pos a.row)
    → reached (col_steps es) (pos a.col) ≡ pos a.col → reached (row_steps es) (pos a.row) ≡ pos a.row
    → corners_from es (pos a.col) (pos a.row) ≡ map cell_of (a ∷ ends_from es (pos a.col) (pos a.row)) ++ again a es
unfolding corners_from ends_from again col_steps row_steps reached
corners-are a [] s p q = refl
corners-are a ((dx, dy) ∷ es) s p q =
    ap (λ (cs : List Cell). cell_of a ∷ cs) (rw (p, q) at (corners-behind dx dy es (pos a.col) (pos a.row) s))

-- ---- the hull

met-here : (es : List Edge) {x y u v : ℤ} → ◌≡◌ {A = Cell} (u, v) (x, y) → Met es x y u v
met-here es {x} {y} e = subst₂ (Met es x y) (sym (ap (λ (c : Cell). c.0) e)) (sym (ap (λ (c : Cell). c.1) e)) start

listed-met : {u v : ℤ} (es : List Edge) (x y : ℤ) → Memᴰ {A = Cell} (u, v) (corners_from es x y) → Met es x y u v
unfolding corners_from
listed-met [] x y m = met-here [] (Memᴰ.eq_of_singleton m)
listed-met ((dx, dy) ∷ es) x y m =
    ⊎_elim (met-here ((dx, dy) ∷ es)) (λ n. after (listed-met es (x +ℤ dx) (y +ℤ dy) n)) (Memᴰ.cases_cons m)

met-listed : {u v : ℤ} (es : List Edge) (x y : ℤ) → Met es x y u v → Memᴰ {A = Cell} (u, v) (corners_from es x y)
unfolding corners_from
met-listed [] x y start = Memᴰ.head refl
met-listed ((dx, dy) ∷ es) x y start = Memᴰ.head refl
met-listed ((dx, dy) ∷ es) x y (after m) = Memᴰ.tail (met-listed es (x +ℤ dx) (y +ℤ dy) m)

-- One of these points has the column u and the row v
record PointAt (ps : List Point) (u v : ℤ) : Type 0 where
  point : Point
  listed : Memᴰ point ps
  col : pos point.col ≡ u
  row : pos point.row ≡ v

point_at : {ps : List Point} {u v : ℤ} (p : Point) → Memᴰ p ps → cell_of p ≡ (u, v) → PointAt ps u v
point_at p l e = record { point = p; listed = l; col = ap (λ (c : Cell). c.0) e; row = ap (λ (c : Cell). c.1) e }

-- A mean of three natural numbers
mean :
    (i j k c p q t : ℕ) {u v w : ℤ} → pos p ≡ u → pos q ≡ v → pos t ≡ w → pos (i + j + k) *ℤ pos c ≡ pos i *ℤ u +ℤ pos j *ℤ v +ℤ pos k *ℤ w
    → (i + j + k) * c ≡ i * p + j * q + k * t
mean i j k c p q t e f g h = ap nat_abs (rw (sym e, sym f, sym g) at h)

-- The points are the corner cells
module _ (a : Point) (es : List ℤ) (ps : List Point) (met : corners a es ≡ map cell_of (a ∷ ps) ++ again a (pairs es)) where
  again-cell : (fs : List Edge) {c : Cell} → Memᴰ c (again a fs) → c ≡ cell_of a
  unfolding again
  again-cell [] m = absurd (Memᴰ.not-nil m)
  again-cell (e ∷ fs) m = Memᴰ.eq_of_singleton m

  point-of : {u v : ℤ} → Met (pairs es) (pos a.col) (pos a.row) u v → PointAt (a ∷ ps) u v
  point-of {u} {v} m =
      ⊎_elim
      (λ n. let (p, l, e) = Memᴰ.of_map cell_of (a ∷ ps) n in point_at p l e)
      (λ n. point_at a (Memᴰ.head refl) (sym (again-cell (pairs es) n)))
      (Memᴰ.append_cases (map cell_of (a ∷ ps))
      (subst (λ (cs : List Cell). Memᴰ {A = Cell} (u, v) cs) met (met-listed (pairs es) (pos a.col) (pos a.row) m)))

  pub met-point : {p : Point} → Memᴰ p (a ∷ ps) → Met (pairs es) (pos a.col) (pos a.row) (pos p.col) (pos p.row)
  met-point {p} m =
      listed-met (pairs es) (pos a.col) (pos a.row)
      (subst (λ (cs : List Cell). Memᴰ (cell_of p) cs) (sym met) (Memᴰ.append_left (again a (pairs es)) (Memᴰ.map cell_of m)))

  -- So both have the same hull
  pub hull-iff : (x : Point) → CornersHold a es x ↔ InHullOf (a ∷ ps) x
  hull-iff x = (to, of)
    where
      to : CornersHold a es x → InHullOf (a ∷ ps) x
      to h =
          let p = point-of h.p.met in
          let q = point-of h.q.met in
          let t = point-of h.t.met in
          record {
            p = p.point;
            q = q.point;
            t = t.point;
            p_listed = p.listed;
            q_listed = q.listed;
            t_listed = t.listed;
            triangle =
                record {
                  a = h.i;
                  b = h.j;
                  c = h.k;
                  above_zero = h.above_zero;
                  cols = mean h.i h.j h.k _ _ _ _ p.col q.col t.col h.cols;
                  rows = mean h.i h.j h.k _ _ _ _ p.row q.row t.row h.rows;
                };
          }

      of : InHullOf (a ∷ ps) x → CornersHold a es x
      of h =
          record {
            p = record { col = pos h.p.col; row = pos h.p.row; met = met-point h.p_listed };
            q = record { col = pos h.q.col; row = pos h.q.row; met = met-point h.q_listed };
            t = record { col = pos h.t.col; row = pos h.t.row; met = met-point h.t_listed };
            i = h.triangle.a;
            j = h.triangle.b;
            k = h.triangle.c;
            above_zero = h.triangle.above_zero;
            cols = ap pos h.triangle.cols;
            rows = ap pos h.triangle.rows;
          }
