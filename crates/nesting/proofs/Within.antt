-- Every cell of the first polygon is in the second exactly if every corner cell of
-- the first is: an inside cell is a mean of corner cells.
use Prim.Native.Nat.{ℕ}
use native.Mathlib.Omega.{arith}
use mathlib.Core.Path.{◌≡◌, refl, sym, ◌∙◌}
use mathlib.Core.Logic.{◌↔◌}
use mathlib.Core.Bool.{Bool, true, false, true≢false}
use mathlib.Core.List.{List}
use lib.IntN.{ℤ, pos}
use Rattle.convexity.specs.Edges.{Edge}
use Rattle.convexity.specs.Inside.{inside_at}
use Rattle.directions.specs.CornerHull.{Met, Corner, InCornerHull}
use Rattle.directions.proofs.Means.{Meanℤ, mean-of}
use Rattle.directions.proofs.Theorem.{inside-at-iff-hull}
use Rattle.nesting.specs.Cells.{Polygon, Fit, Holds, Within, Beyond}
use Rattle.nesting.specs.Corners.{corners_on_chart, corners_inside}
use Rattle.nesting.specs.Answer.{lies_within}
use Rattle.nesting.proofs.CornerTests.{every-met, met_every, Fails, some-fails, Place, place}
use Rattle.nesting.proofs.Means.{mean-inside}

-- A corner cell is a mean of corner cells, and is inside
alone : (z : ℤ) → Meanℤ 1 1 0 0 z z z z
alone z = mean-of (omega arith)

pub corner-hull : {es : List Edge} {x y u v : ℤ} → Met es x y u v → InCornerHull es x y u v
corner-hull {es} {x} {y} {u} {v} m =
    let p : Corner es x y = record { col = u; row = v; met = m } in
    record { p = p; q = p; t = p; i = 1; j = 0; k = 0; above_zero = omega arith; cols = (alone u).is; rows = (alone v).is }

-- A cell inside the first polygon is a mean of its corner cells, so it is inside any polygon that contains them
corners-hold :
    (es : List Edge) (x y : ℤ) (fs : List Edge) (a b c r : ℤ) → ((u v : ℤ) → Met es x y u v → inside_at fs a b u v ≡ true)
    → InCornerHull es x y c r
    → inside_at fs a b c r ≡ true
corners-hold es x y fs a b c r h m =
    mean-inside m.above_zero refl fs a b c r m.p.col m.p.row m.q.col m.q.row m.t.col m.t.row (record { is = m.cols })
    (record { is = m.rows }) (h _ _ m.p.met) (h _ _ m.q.met) (h _ _ m.t.met)

-- For a polygon that passes, a cell is in the hull exactly if it is inside
pub holds-iff : (p : Polygon) → Fit p → (c r : ℕ)
    → (inside_at p.edges (pos p.anchor.col) (pos p.anchor.row) (pos c) (pos r) ≡ true) ↔ Holds p (record { col = c; row = r })
holds-iff p fit c r = inside-at-iff-hull (pos p.anchor.col) (pos p.anchor.row) p.edges (pos c) (pos r) fit.passes

-- Corner cells of a polygon
abbrev pub MetBy : Polygon → ℤ → ℤ → Type 0
MetBy p u v = Met p.edges (pos p.anchor.col) (pos p.anchor.row) u v

-- The natural coordinates of a corner cell
pub corner-place : (p : Polygon) → Fit p → {u v : ℤ} → MetBy p u v → Place u v
unfolding corners_on_chart
corner-place p fit {u} {v} m = place u v (every-met _ m fit.placed)

-- A cell of the chart by its natural coordinates: it is a corner cell, and it is inside
pub met-place : (p : Polygon) {u v : ℤ} (s : Place u v) → MetBy p u v → MetBy p (pos s.col) (pos s.row)
met-place p s m = rw (s.is_col, s.is_row) at m

pub inside-place :
    (q : Polygon) {u v : ℤ} (s : Place u v)
    → inside_at q.edges (pos q.anchor.col) (pos q.anchor.row) u v
    ≡ inside_at q.edges (pos q.anchor.col) (pos q.anchor.row) (pos s.col) (pos s.row)
inside-place q s = rw (s.is_col, s.is_row)

module _ (p q : Polygon) (one : Fit p) (two : Fit q) where
  -- The test of the second polygon
  abbrev test : ℤ → ℤ → Bool
  test u v = inside_at q.edges (pos q.anchor.col) (pos q.anchor.row) u v

  within-corner : Within (Holds p) (Holds q) → (u v : ℤ) → MetBy p u v → test u v ≡ true
  within-corner h u v m =
      let s = corner-place p one m in
      inside-place q s ∙ (holds-iff q two s.col s.row).1 (h (record { col = s.col; row = s.row }) (corner-hull (met-place p s m)))

  corner-within : ((u v : ℤ) → MetBy p u v → test u v ≡ true) → Within (Holds p) (Holds q)
  corner-within h x k = (holds-iff q two x.col x.row).0 (corners-hold _ _ _ _ _ _ _ _ h k)

  -- The theorem
  pub within-iff-corners : Within (Holds p) (Holds q) ↔ ((u v : ℤ) → MetBy p u v → test u v ≡ true)
  within-iff-corners = (within-corner, corner-within)

  -- As a test, and a cell where the test fails
  pub within-iff-test : (lies_within p q ≡ true) ↔ Within (Holds p) (Holds q)
  unfolding lies_within corners_inside
  within-iff-test = ((λ e. corner-within (λ u v m. every-met test m e)), λ h. met_every test _ _ _ (within-corner h))

  pub test-beyond : lies_within p q ≡ false → Beyond (Holds p) (Holds q)
  unfolding lies_within corners_inside
  test-beyond e = go (some-fails test _ _ _ e)
    where
      go : Fails test p.edges (pos p.anchor.col) (pos p.anchor.row) → Beyond (Holds p) (Holds q)
      go w =
          let s = corner-place p one w.met in
          record {
            cell = record { col = s.col; row = s.row };
            in_first = corner-hull (met-place p s w.met);
            not_second = λ h. true≢false (sym ((holds-iff q two s.col s.row).1 h) ∙ sym (inside-place q s) ∙ w.fails);
          }
