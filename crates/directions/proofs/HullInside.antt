-- A cell in the hull of the corner cells is inside, since every corner cell is and a mean keeps the inequalities.
use Prim.Native.Nat.{◌+◌}
use mathlib.Core.Path.{◌≡◌, refl}
use mathlib.Core.Bool.{true, false, and-eq-true_iff}
use mathlib.Core.List.{List}
use lib.IntN.{ℤ}
use Rattle.convexity.specs.Edges.{Edge}
use Rattle.convexity.specs.Inside.{col_steps, row_steps, within, inside_at}
use Rattle.directions.specs.Increasing.{bad_edges}
use Rattle.directions.specs.CornerHull.{InCornerHull}
use Rattle.directions.proofs.Passing.{Passed, passes-iff, Inner, none-outside, corner-inner}
use Rattle.directions.proofs.Means.{Meanℤ, mean-side, mean-least, met-col, met-row, mean-within}

module _ {es : List Edge} {x y c r : ℤ} (h : InCornerHull es x y c r) where
  cols : Meanℤ (h.i + h.j + h.k) h.i h.j h.k c h.p.col h.q.col h.t.col
  cols = record { is = h.cols }

  rows : Meanℤ (h.i + h.j + h.k) h.i h.j h.k r h.p.row h.q.row h.t.row
  rows = record { is = h.rows }

  -- On the inner side of every edge
  hull-inner : Passed es x y → Inner es x y c r
  hull-inner g =
      record {
        side = λ ex ey u v fs l.
            mean-least h.above_zero (mean-side ex ey u v refl cols rows)
            ((corner-inner g h.p.met).side ex ey u v fs l) ((corner-inner g h.q.met).side ex ey u v fs l)
            ((corner-inner g h.t.met).side ex ey u v fs l);
      }

  hull-cols : within (col_steps es) x c ≡ true
  hull-cols = mean-within h.above_zero refl (col_steps es) cols (met-col h.p.met) (met-col h.q.met) (met-col h.t.met)

  hull-rows : within (row_steps es) y r ≡ true
  hull-rows = mean-within h.above_zero refl (row_steps es) rows (met-row h.p.met) (met-row h.q.met) (met-row h.t.met)

pub hull-inside :
    (x y : ℤ) (es : List Edge) (c r : ℤ) → bad_edges es ≡ false → InCornerHull es x y c r → inside_at es x y c r ≡ true
unfolding inside_at
hull-inside x y es c r a h =
    (and-eq-true_iff _ _).1 (
      (and-eq-true_iff _ _).1 (hull-cols h, hull-rows h),
      none-outside es x y c r (hull-inner h ((passes-iff es x y).0 a)),
    )
