-- For edges that pass refusal 16, a cell is inside exactly if it lies in the hull of the corner
-- cells: means give one direction, and the fan of triangles or a segment the other.
use mathlib.Core.Path.{◌≡◌}
use mathlib.Core.Logic.{◌↔◌}
use mathlib.Core.Bool.{true, false, ◌&&◌, and-eq-true_iff}
use mathlib.Core.List.{List, [], ◌∷◌}
use lib.IntN.{ℤ, pos, ◌+ℤ◌}
use Rattle.chart.specs.declared.Point.{Point}
use Rattle.convexity.specs.Edges.{Edge, pairs}
use Rattle.convexity.specs.Inside.{col_steps, row_steps, none_outside, within, inside_at, inside_edges}
use Rattle.directions.specs.Increasing.{bad_edges, bad_directions}
use Rattle.directions.specs.CornerHull.{InCornerHull, CornersHold}
use Rattle.directions.proofs.Directions.{Sooner}
use Rattle.directions.proofs.Corners.{Ends, AllAfter, Rising, first, later}
use Rattle.directions.proofs.Passing.{Passed, passes-iff, Inner, inner}
use Rattle.directions.proofs.HullInside.{hull-inside}
use Rattle.directions.proofs.InsideHull.{nil-ends, inside-many}
use Rattle.directions.proofs.Short.{inside-none, inside_one, inside-two}

ends-tail : {es : List Edge} {dx dy x y u v : ℤ} → Ends ((dx, dy) ∷ es) x y u v → Ends es (x +ℤ dx) (y +ℤ dy) u v
ends-tail (Ends.next w) = w

first_two : {es : List Edge} {dx dy ex ey : ℤ} → Rising ((dx, dy) ∷ (ex, ey) ∷ es) → Sooner dx dy ex ey
first_two (Rising.next f (AllAfter.next b a) r) = b

inner-hull :
    (es : List Edge) (x y c r : ℤ) → Passed es x y → Inner es x y c r → within (col_steps es) x c ≡ true → within (row_steps es) y r ≡ true
    → InCornerHull es x y c r
unfolding col_steps row_steps
inner-hull [] x y c r g h k l = inside-none x y c r k l
inner-hull ((dx, dy) ∷ []) x y c r g h k l =
    let e = nil-ends (ends-tail g.returns) in
    inside_one x y c r dx dy e.0 e.1 k l
inner-hull ((dx, dy) ∷ (ex, ey) ∷ []) x y c r g h k l =
    let e = nil-ends (ends-tail (ends-tail g.returns)) in
    inside-two x y c r dx dy ex ey e.0 e.1 (first_two g.rises) (h.side _ _ _ _ _ first) (h.side _ _ _ _ _ (later first)) k l
inner-hull ((dx, dy) ∷ (ex, ey) ∷ (gx, gy) ∷ es) x y c r g h k l = inside-many g h

pub inside-hull : (x y : ℤ) (es : List Edge) (c r : ℤ) → bad_edges es ≡ false → inside_at es x y c r ≡ true → InCornerHull es x y c r
unfolding inside_at
inside-hull x y es c r a h =
    let k = (and-eq-true_iff (within (col_steps es) x c && within (row_steps es) y r) (none_outside es x y c r)).0 h in
    let l = (and-eq-true_iff (within (col_steps es) x c) (within (row_steps es) y r)).0 k.0 in
    inner-hull es x y c r ((passes-iff es x y).0 a) (inner es x y c r k.1) l.0 l.1

-- The theorem for anchors and cells anywhere
pub inside-at-iff-hull : (x y : ℤ) (es : List Edge) (c r : ℤ) → bad_edges es ≡ false → (inside_at es x y c r ≡ true) ↔ InCornerHull es x y c r
inside-at-iff-hull x y es c r a = (inside-hull x y es c r a, hull-inside x y es c r a)

-- The theorem for an anchor and a cell of the chart
pub inside-iff-hull : (a : Point) (es : List ℤ) (x : Point) → bad_directions es ≡ false → (inside_edges a es x ≡ true) ↔ CornersHold a es x
unfolding inside_edges
inside-iff-hull a es x b = inside-at-iff-hull (pos a.col) (pos a.row) (pairs es) (pos x.col) (pos x.row) b
