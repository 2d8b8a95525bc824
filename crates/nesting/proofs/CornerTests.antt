-- A test of all corner cells passes exactly if each passes, and otherwise some corner cell fails it: by induction on the edges.
use Prim.Native.Nat.{ℕ, ◌<◌}
use mathlib.Core.Path.{◌≡◌, refl}
use mathlib.Core.Bool.{Bool, true, false, ◌&&◌, and-eq-true_iff}
use mathlib.Core.List.{List, [], ◌∷◌}
use lib.IntN.{ℤ, pos, ◌+ℤ◌}
use Rattle.chart.specs.Limits.{side}
use Rattle.convexity.specs.Edges.{Edge}
use Rattle.directions.specs.CornerHull.{is_on_chart, Met}
use Rattle.directions.proofs.OnChart.{number, on-parts}
use Rattle.nesting.specs.Corners.{every_corner}

pub every-met : (f : ℤ → ℤ → Bool) {es : List Edge} {x y u v : ℤ} → Met es x y u v → every_corner f es x y ≡ true → f u v ≡ true
unfolding every_corner
every-met f (Met.start {es = []}) e = e
every-met f (Met.start {es = d ∷ es} {x = x} {y = y}) e = ((and-eq-true_iff (f x y) _).0 e).0
every-met f (Met.after {dx = dx} {dy = dy} {x = x} {y = y} m) e = every-met f m ((and-eq-true_iff (f x y) _).0 e).1

pub met_every : (f : ℤ → ℤ → Bool) (es : List Edge) (x y : ℤ) → ((u v : ℤ) → Met es x y u v → f u v ≡ true) → every_corner f es x y ≡ true
unfolding every_corner
met_every f [] x y h = h x y Met.start
met_every f ((dx, dy) ∷ es) x y h =
    (and-eq-true_iff (f x y) _).1 (h x y Met.start, met_every f es (x +ℤ dx) (y +ℤ dy) (λ u v m. h u v (Met.after m)))

-- A corner cell that fails a test
pub record Fails (f : ℤ → ℤ → Bool) (es : List Edge) (x y : ℤ) : Type 0 where
  pub col : ℤ
  pub row : ℤ
  pub met : Met es x y col row
  pub fails : f col row ≡ false

pub some-fails : (f : ℤ → ℤ → Bool) (es : List Edge) (x y : ℤ) → every_corner f es x y ≡ false → Fails f es x y
unfolding every_corner
some-fails f [] x y e = record { col = x; row = y; met = Met.start; fails = e }
some-fails f ((dx, dy) ∷ es) x y e = go (f x y) refl e (λ d. some-fails f es (x +ℤ dx) (y +ℤ dy) d)
  where
    go :
        (s : Bool) → f x y ≡ s → (s && every_corner f es (x +ℤ dx) (y +ℤ dy)) ≡ false
        → (every_corner f es (x +ℤ dx) (y +ℤ dy) ≡ false → Fails f es (x +ℤ dx) (y +ℤ dy)) → Fails f ((dx, dy) ∷ es) x y
    go true p d more = let w = more d in record { col = w.col; row = w.row; met = Met.after w.met; fails = w.fails }
    go false p d more = record { col = x; row = y; met = Met.start; fails = p }

-- A cell of the chart has natural numbers below 255
pub record Place (u v : ℤ) : Type 0 where
  pub col : ℕ
  pub row : ℕ
  pub is_col : u ≡ pos col
  pub is_row : v ≡ pos row
  pub col_below : col < side
  pub row_below : row < side

pub place : (u v : ℤ) → is_on_chart u v ≡ true → Place u v
place u v e =
    let a = on-parts u v e in
    let p = number u a.0 in
    let q = number v a.1 in
    record { col = p.0; row = q.0; is_col = p.1; is_row = q.1; col_below = p.2; row_below = q.2 }
