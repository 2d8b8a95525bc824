-- A cell inside lies in the hull of the corner cells, because one triangle of the fan from the anchor contains it.
-- With three or more edges, follow the fan. The first corner cell that has the cell on
-- its other side closes the triangle that contains the cell.
use native.Mathlib.Decide.{dec_le}
use native.Mathlib.Omega.{arith}
use mathlib.Core.Path.{◌≡◌, refl}
use mathlib.Core.List.{List, [], ◌∷◌}
use lib.IntN.{ℤ, ◌+ℤ◌, ◌-ℤ◌}
use Rattle.convexity.specs.Edges.{Edge}
use Rattle.convexity.specs.Inside.{side_value}
use Rattle.directions.specs.Round.{cross}
use Rattle.directions.specs.CornerHull.{Met, InCornerHull}
use Rattle.base.proofs.IntegerOrder.{up, down}
use Rattle.directions.proofs.Cross.{side-cross}
use Rattle.directions.proofs.Directions.{Above, Least0}
use Rattle.directions.proofs.Corners.{Ends, Leaves, first, later, leaves-end, edge-end, anchor-above}
use Rattle.directions.proofs.Passing.{Passed, Inner}
use Rattle.directions.proofs.Fan.{Seen, seen_step, seen-anchor, fan-sum, triangle}

leaves-next :
    {es fs : List Edge} {x y ex ey gx gy u v : ℤ} → Leaves es x y ex ey u v ((gx, gy) ∷ fs) → Leaves es x y gx gy (u +ℤ ex) (v +ℤ ey) fs
leaves-next first = later first
leaves-next (later l) = later (leaves-next l)

leaves-met : {es fs : List Edge} {x y ex ey u v : ℤ} → Leaves es x y ex ey u v fs → Met es x y u v
leaves-met first = Met.start
leaves-met (later l) = Met.after (leaves-met l)

leaves-met-next : {es fs : List Edge} {x y ex ey u v : ℤ} → Leaves es x y ex ey u v fs → Met es x y (u +ℤ ex) (v +ℤ ey)
leaves-met-next first = Met.after Met.start
leaves-met-next (later l) = Met.after (leaves-met-next l)

-- The last edge returns to the anchor, so the cell is not strictly clockwise of its start
pub last :
    (x y c r ex ey u v : ℤ) → u +ℤ ex ≡ x → v +ℤ ey ≡ y → Least0 (side_value ex ey u v c r) → Above (Seen x y c r u v) → ⊥
last x y c r ex ey u v p q s a =
    let sum = rw (p, q) at (fan-sum x y c r u v ex ey).eq in
    let end = rw (p, q) at (edge-end ex ey u v).eq in
    omega (arith, sum, end, (seen-anchor x y c r).eq)

pub nil-ends : {x y u v : ℤ} → Ends [] x y u v → (x ≡ u) × (y ≡ v)
nil-ends Ends.none = (refl, refl)

module _ {es : List Edge} {x y c r dx dy : ℤ} (g : Passed ((dx, dy) ∷ es) x y) (h : Inner ((dx, dy) ∷ es) x y c r) where
  -- One triangle: it contains the cell, or the cell is strictly clockwise of the next corner cell
  one :
      {fs : List Edge} {ex ey u v gx gy : ℤ} → Leaves es (x +ℤ dx) (y +ℤ dy) ex ey u v ((gx, gy) ∷ fs) → Least0 (Seen x y c r u v)
      → (Above (Seen x y c r (u +ℤ ex) (v +ℤ ey)) → InCornerHull ((dx, dy) ∷ es) x y c r) → InCornerHull ((dx, dy) ∷ es) x y c r
  one {fs} {ex} {ey} {u} {v} {gx} {gy} l s more =
      elim (dec_le (up (Seen x y c r (u +ℤ ex) (v +ℤ ey))) (down (Seen x y c r (u +ℤ ex) (v +ℤ ey)))) [
        | yes n ↦
            triangle x y c r u v ex ey (Met.after (leaves-met l)) (Met.after (leaves-met-next l))
            (h.side ex ey u v ((gx, gy) ∷ fs) (later l)) n s
            (anchor-above ex ey u v g.rises l g.returns)
        | no n ↦ more (omega arith)
      ]

  fan : (fs : List Edge) {ex ey u v : ℤ} → Leaves es (x +ℤ dx) (y +ℤ dy) ex ey u v fs → Above (Seen x y c r u v)
      → InCornerHull ((dx, dy) ∷ es) x y c r
  fan [] {ex} {ey} {u} {v} l a =
      let e = nil-ends (leaves-end ex ey u v (later l) g.returns) in
      absurd (last x y c r ex ey u v e.0 e.1 (h.side ex ey u v [] (later l)) a)
  fan ((gx, gy) ∷ fs) l a = one l (omega arith) (λ b. fan fs (leaves-next l) b)

-- Three or more edges
pub inside-many :
    {es : List Edge} {x y c r dx dy ex ey gx gy : ℤ} → Passed ((dx, dy) ∷ (ex, ey) ∷ (gx, gy) ∷ es) x y
    → Inner ((dx, dy) ∷ (ex, ey) ∷ (gx, gy) ∷ es) x y c r
    → InCornerHull ((dx, dy) ∷ (ex, ey) ∷ (gx, gy) ∷ es) x y c r
inside-many {es} {x} {y} {c} {r} {dx} {dy} {ex} {ey} {gx} {gy} g h =
    let s : Least0 (cross dx dy (c -ℤ x) (r -ℤ y)) =
    rw (side-cross dx dy x y c r) at (h.side dx dy x y ((ex, ey) ∷ (gx, gy) ∷ es) first) in
    one g h first (omega (arith, (seen_step x y c r x y dx dy).eq, (seen-anchor x y c r).eq)) (λ b. fan g h es (later first) b)
