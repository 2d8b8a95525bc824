-- The least first column in a row comes from a corner cell or from an edge that goes up through the row, and the greatest end from a
-- corner cell or from an edge that goes down: a minimum or maximum is one of its terms.
use Prim.Native.Nat.{ℕ, ◌≤◌, ◌<◌, min}
use native.Mathlib.Decide.{dec_le, dec_lt}
use native.Mathlib.Omega.{arith}
use mathlib.Core.Path.{◌≡◌, refl}
use mathlib.Core.Bool.{Bool, true, false, cond}
use mathlib.Core.List.{List, [], ◌∷◌}
use lib.IntN.{ℤ, pos, ◌+ℤ◌}
use Rattle.base.specs.Same.{sameℤ}
use Rattle.base.proofs.Same.{same-ℤ, same_self}
use Rattle.chart.specs.Limits.{side}
use Rattle.convexity.specs.Edges.{Edge}
use Rattle.convexity.specs.Inside.{side_value}
use Rattle.directions.specs.CornerHull.{Met, start, after}
use Rattle.directions.proofs.Corners.{Leaves, first, later}
use Rattle.nesting.specs.Rows.{edge_from, edge_to, start_at, end_after}
use Rattle.sweep.specs.parts.Sweep.{between, corner_from, corner_to, rise_from, fall_to, swept_from, swept_to}

-- A corner cell or edge whose first column is at most c; one whose end is after c
pub data FromItem (es : List Edge) (x y : ℤ) (r c : ℕ) : Type 0 where
  corner : {u v : ℤ} → Met es x y u v → v ≡ pos r → start_at u ≤ c → FromItem es x y r c
  edge :
      {ex ey p q : ℤ} {fs : List Edge} → Leaves es x y ex ey p q fs → between q (q +ℤ ey) r ≡ true
      → edge_from ey (side_value ex ey p q (pos 0) (pos r)) ≤ c
      → FromItem es x y r c

pub data ToItem (es : List Edge) (x y : ℤ) (r c : ℕ) : Type 0 where
  corner : {u v : ℤ} → Met es x y u v → v ≡ pos r → c < end_after u → ToItem es x y r c
  edge :
      {ex ey p q : ℤ} {fs : List Edge} → Leaves es x y ex ey p q fs → between (q +ℤ ey) q r ≡ true
      → c < edge_to ey (side_value ex ey p q (pos 0) (pos r))
      → ToItem es x y r c

module _ (r c : ℕ) (l : c < side) where
  -- ---- the least column

  from-later : {es : List Edge} {dx dy x y : ℤ} → FromItem es (x +ℤ dx) (y +ℤ dy) r c → FromItem ((dx, dy) ∷ es) x y r c
  from-later (FromItem.corner m e h) = FromItem.corner (after m) e h
  from-later (FromItem.edge m e h) = FromItem.edge (later m) e h

  corner-from : (es : List Edge) (x y : ℤ) → corner_from x y r ≤ c → FromItem es x y r c
  unfolding corner_from
  corner-from es x y h = go (sameℤ y (pos r)) refl h
    where
      go : (s : Bool) → sameℤ y (pos r) ≡ s → cond s (min (start_at x) side) side ≤ c → FromItem es x y r c
      go true e k = FromItem.corner start (same-ℤ y (pos r) e) (omega arith)
      go false e k = absurd (omega arith)

  rise-from : (es : List Edge) (dx dy x y : ℤ) → rise_from dx dy x y r ≤ c → FromItem ((dx, dy) ∷ es) x y r c
  unfolding rise_from
  rise-from es dx dy x y h = go (between y (y +ℤ dy) r) refl h
    where
      go :
          (s : Bool) → between y (y +ℤ dy) r ≡ s → cond s (min (edge_from dy (side_value dx dy x y (pos 0) (pos r))) side) side ≤ c
          → FromItem ((dx, dy) ∷ es) x y r c
      go true e k = FromItem.edge first e (omega arith)
      go false e k = absurd (omega arith)

  pub from-item : (es : List Edge) (x y : ℤ) → swept_from es x y r ≤ c → FromItem es x y r c
  unfolding swept_from
  from-item [] x y h = corner-from [] x y h
  from-item ((dx, dy) ∷ es) x y h =
      elim (dec_le (corner_from x y r) c) [
        | yes k ↦ corner-from ((dx, dy) ∷ es) x y k
        | no k ↦
            elim (dec_le (rise_from dx dy x y r) c) [
              | yes m ↦ rise-from es dx dy x y m
              | no m ↦ from-later (from-item es (x +ℤ dx) (y +ℤ dy) (omega arith))
            ]
      ]

  at-corner : (x y : ℤ) → y ≡ pos r → corner_from x y r ≤ start_at x
  unfolding corner_from
  at-corner x y e = rw (e, same_self (pos r)) (omega arith)

  from-corner : {es : List Edge} {x y u v : ℤ} → Met es x y u v → v ≡ pos r → swept_from es x y r ≤ start_at u
  unfolding swept_from
  from-corner (start {es = []} {x = x} {y = y}) e = at-corner x y e
  from-corner (start {es = (dx, dy) ∷ es} {x = x} {y = y}) e = omega (arith, at-corner x y e)
  from-corner (after m) e = omega (arith, from-corner m e)

  from-edge :
      {es fs : List Edge} {x y ex ey p q : ℤ} → Leaves es x y ex ey p q fs → between q (q +ℤ ey) r ≡ true
      → swept_from es x y r ≤ edge_from ey (side_value ex ey p q (pos 0) (pos r))
  unfolding swept_from rise_from
  from-edge first e = rw e (omega arith)
  from-edge (later m) e = omega (arith, from-edge m e)

  pub item_from : (es : List Edge) (x y : ℤ) → FromItem es x y r c → swept_from es x y r ≤ c
  item_from es x y (FromItem.corner m e h) = omega (arith, from-corner m e)
  item_from es x y (FromItem.edge m e h) = omega (arith, from-edge m e)

  -- ---- the greatest end

  to-later : {es : List Edge} {dx dy x y : ℤ} → ToItem es (x +ℤ dx) (y +ℤ dy) r c → ToItem ((dx, dy) ∷ es) x y r c
  to-later (ToItem.corner m e h) = ToItem.corner (after m) e h
  to-later (ToItem.edge m e h) = ToItem.edge (later m) e h

  corner-to : (es : List Edge) (x y : ℤ) → c < corner_to x y r → ToItem es x y r c
  unfolding corner_to
  corner-to es x y h = go (sameℤ y (pos r)) refl h
    where
      go : (s : Bool) → sameℤ y (pos r) ≡ s → c < cond s (min (end_after x) side) 0 → ToItem es x y r c
      go true e k = ToItem.corner start (same-ℤ y (pos r) e) (omega arith)
      go false e k = absurd (omega arith)

  fall-to : (es : List Edge) (dx dy x y : ℤ) → c < fall_to dx dy x y r → ToItem ((dx, dy) ∷ es) x y r c
  unfolding fall_to
  fall-to es dx dy x y h = go (between (y +ℤ dy) y r) refl h
    where
      go :
          (s : Bool) → between (y +ℤ dy) y r ≡ s → c < cond s (min (edge_to dy (side_value dx dy x y (pos 0) (pos r))) side) 0
          → ToItem ((dx, dy) ∷ es) x y r c
      go true e k = ToItem.edge first e (omega arith)
      go false e k = absurd (omega arith)

  pub to_item : (es : List Edge) (x y : ℤ) → c < swept_to es x y r → ToItem es x y r c
  unfolding swept_to
  to_item [] x y h = corner-to [] x y h
  to_item ((dx, dy) ∷ es) x y h =
      elim (dec_lt c (corner_to x y r)) [
        | yes k ↦ corner-to ((dx, dy) ∷ es) x y k
        | no k ↦
            elim (dec_lt c (fall_to dx dy x y r)) [
              | yes m ↦ fall-to es dx dy x y m
              | no m ↦ to-later (to_item es (x +ℤ dx) (y +ℤ dy) (omega arith))
            ]
      ]

  to_at : (x y : ℤ) → y ≡ pos r → min (end_after x) side ≤ corner_to x y r
  unfolding corner_to
  to_at x y e = rw (e, same_self (pos r)) (omega arith)

  to-corner : {es : List Edge} {x y u v : ℤ} → Met es x y u v → v ≡ pos r → min (end_after u) side ≤ swept_to es x y r
  unfolding swept_to
  to-corner (start {es = []} {x = x} {y = y}) e = to_at x y e
  to-corner (start {es = (dx, dy) ∷ es} {x = x} {y = y}) e = omega (arith, to_at x y e)
  to-corner (after m) e = omega (arith, to-corner m e)

  to-edge :
      {es fs : List Edge} {x y ex ey p q : ℤ} → Leaves es x y ex ey p q fs → between (q +ℤ ey) q r ≡ true
      → min (edge_to ey (side_value ex ey p q (pos 0) (pos r))) side ≤ swept_to es x y r
  unfolding swept_to fall_to
  to-edge first e = rw e (omega arith)
  to-edge (later m) e = omega (arith, to-edge m e)

  pub item-to : (es : List Edge) (x y : ℤ) → ToItem es x y r c → c < swept_to es x y r
  item-to es x y (ToItem.corner m e h) = omega (arith, to-corner m e)
  item-to es x y (ToItem.edge m e h) = omega (arith, to-edge m e)

-- No first column and no end is beyond the chart
both_below : (s : Bool) (n k : ℕ) → k ≤ side → cond s (min n side) k ≤ side
both_below true n k h = omega arith
both_below false n k h = h

corner-below : (x y : ℤ) (r : ℕ) → (corner_from x y r ≤ side) × (corner_to x y r ≤ side)
unfolding corner_from corner_to
corner-below x y r = let s = sameℤ y (pos r) in (both_below s (start_at x) side (omega arith), both_below s (end_after x) 0 (omega arith))

fall-below : (dx dy x y : ℤ) (r : ℕ) → fall_to dx dy x y r ≤ side
unfolding fall_to
fall-below dx dy x y r = both_below (between (y +ℤ dy) y r) (edge_to dy (side_value dx dy x y (pos 0) (pos r))) 0 (omega arith)

pub swept-from-below : (es : List Edge) (x y : ℤ) (r : ℕ) → swept_from es x y r ≤ side
unfolding swept_from
swept-from-below [] x y r = (corner-below x y r).0
swept-from-below ((dx, dy) ∷ es) x y r = omega (arith, (corner-below x y r).0)

pub swept-to-below : (es : List Edge) (x y : ℤ) (r : ℕ) → swept_to es x y r ≤ side
unfolding swept_to
swept-to-below [] x y r = (corner-below x y r).1
swept-to-below ((dx, dy) ∷ es) x y r = omega (arith, (corner-below x y r).1, fall-below dx dy x y r, swept-to-below es (x +ℤ dx) (y +ℤ dy) r)
