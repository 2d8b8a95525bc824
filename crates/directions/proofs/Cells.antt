-- The corner cells of an outline without a back-step are cells of the chart: each is met in a piece, and the pieces stay on the chart.
use mathlib.Core.Path.{◌≡◌, refl, subst₂}
use mathlib.Core.Logic.{inl, inr}
use mathlib.Core.List.{List, [], ◌∷◌}
use lib.IntN.{ℤ, pos, ◌+ℤ◌}
use Rattle.chart.specs.Outline.{Outline}
use Rattle.convexity.specs.Edges.{Edge, pairs}
use Rattle.convexity.specs.Pieces.{edges}
use Rattle.convexity.specs.Shape.{NoBackStep}
use Rattle.convexity.proofs.Shape.{shape}
use Rattle.convexity.proofs.Inside.{Meets, IsCell, vertex-is-cell}
use Rattle.directions.specs.CornerHull.{Met, start, after}

meets_at : (P : ℤ → ℤ → Type 0) {u v : ℤ} → P u v → (es : List Edge) (x y : ℤ) → Met es x y u v → Meets P es x y
unfolding Meets
meets_at P h [] x y start = h
meets_at P h ((dx, dy) ∷ es) x y start = inl h
meets_at P h ((dx, dy) ∷ es) x y (after m) = inr (meets_at P h es (x +ℤ dx) (y +ℤ dy) m)

pub corner-is-cell : (o : Outline) → NoBackStep o → (u v : ℤ) → Met (pairs (edges o)) (pos o.start.col) (pos o.start.row) u v
    → IsCell u v
corner-is-cell o straight u v m =
    let at : ℤ → ℤ → Type 0 = λ c r. (c ≡ u) × (r ≡ v) in
    let (c, r, is, e) =
    vertex-is-cell o (shape o straight) at (meets_at at (refl, refl) (pairs (edges o)) (pos o.start.col) (pos o.start.row) m) in
    subst₂ IsCell e.0 e.1 is
