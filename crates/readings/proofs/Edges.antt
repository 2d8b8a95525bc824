-- The edges of a walk that stays on the chart are small: both ends are cells, so an edge is at most as long as the chart.
use Prim.Native.Nat.{◌≤◌}
use native.Mathlib.Omega.{arith}
use mathlib.Core.Path.{◌≡◌, sym, ap, subst}
use mathlib.Core.Logic.{⊎_elim}
use mathlib.Core.Bool.{true, and-eq-true_iff}
use mathlib.Core.List.Memᴰ
use mathlib.Core.List.{List, [], ◌∷◌, Memᴰ}
use lib.IntN.{ℤ, pos, nat_abs, ◌+ℤ◌}
use Rattle.base.specs.Each.{all_pass}
use Rattle.base.proofs.IntegerOrder.{up, down}
use Rattle.base.proofs.Differences.{is-self, is_eq, is-add}
use Rattle.base.proofs.Sizes.{size-at-most}
use Rattle.chart.specs.declared.Point.{Point}
use Rattle.convexity.specs.Edges.{Edge, pairs}
use Rattle.directions.specs.CornerHull.{is_on_chart}
use Rattle.directions.proofs.OnChart.{on-parts}
use Rattle.readings.specs.Sides.{PlacedEdge, edges_from, edges_along}
use Rattle.readings.specs.Located.{ends_on, stays_on}
use Rattle.readings.proofs.Numbers.{Cell, cell-of}
use Rattle.readings.proofs.Side.{Small}

step-size : (x d : ℤ) → Cell x → Cell (x +ℤ d) → nat_abs d ≤ 254
step-size x d p q =
    let e = is_eq (is-add (is-self x) (is-self d)) (is-self (pos q.n)) q.is in
    size-at-most 254 (is-self d) (omega (arith, ap up p.is, ap down p.is, q.small))
    (omega (arith, ap up p.is, ap down p.is, p.small))

from-small : (es : List Edge) (x y : ℤ) → Cell x → Cell y → all_pass ends_on (edges_from es x y) ≡ true → (e : PlacedEdge)
    → Memᴰ e (edges_from es x y) → Small e
unfolding edges_from all_pass ends_on
from-small [] x y p q h e m = absurd (Memᴰ.not-nil m)
from-small ((dx, dy) ∷ es) x y p q h e m =
    let both = (and-eq-true_iff (is_on_chart (x +ℤ dx) (y +ℤ dy)) (all_pass ends_on (edges_from es (x +ℤ dx) (y +ℤ dy)))).0 h in
    let ends = on-parts (x +ℤ dx) (y +ℤ dy) both.0 in
    let px = cell-of (x +ℤ dx) ends.0 in
    let py = cell-of (y +ℤ dy) ends.1 in
    ⊎_elim
    (λ (d : e ≡ record { cols = dx; rows = dy; col = x; row = y }). subst Small (sym d)
    (record { col = p; row = q; cols = step-size x dx p px; rows = step-size y dy q py }))
    (from-small es (x +ℤ dx) (y +ℤ dy) px py both.1 e)
    (Memᴰ.cases_cons m)

pub stays-small : (a : Point) (es : List ℤ) → stays_on a es ≡ true → (e : PlacedEdge) → Memᴰ e (edges_along a es) → Small e
unfolding stays_on
stays-small a es h =
    let both = (and-eq-true_iff (is_on_chart (pos a.col) (pos a.row)) (all_pass ends_on (edges_along a es))).0 h in
    let at = on-parts (pos a.col) (pos a.row) both.0 in
    from-small (pairs es) (pos a.col) (pos a.row) (cell-of _ at.0) (cell-of _ at.1) both.1
