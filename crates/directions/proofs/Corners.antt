-- Every corner cell is on the inner side of every edge, since along the walk the side values of one edge increase and then decrease.
-- They do so along the edges after it and along those before it. They are 0 at the edge,
-- and at least 0 at the anchor, where the walk starts and ends.
use Prim.Native.Nat.{◌+◌, ◌≤◌, ◌<◌}
use native.Mathlib.Decide.{dec_le}
use native.Mathlib.Omega.{arith}
use mathlib.Core.List.{List, [], ◌∷◌}
use lib.IntN.{ℤ, ◌+ℤ◌}
use Rattle.convexity.specs.Edges.{Edge}
use Rattle.convexity.specs.Inside.{side_value}
use Rattle.directions.specs.Round.{cross}
use Rattle.directions.specs.CornerHull.{Met, start, after}
use Rattle.base.proofs.IntegerOrder.{up, down}
use Rattle.base.proofs.Differences.{Is}
use Rattle.directions.proofs.Cross.{side-step, side-start, cross-self, cross-swap}
use Rattle.directions.proofs.Directions.{Above, Least0, Most0, Forward, Backward, Sooner, halves, forwards, backwards, both_ways}
use Rattle.directions.proofs.Directions.{falls-after, falls-before}

-- ---- lists of edges with directions in clockwise order

-- An edge that is not zero
pub data Facing (dx dy : ℤ) : Type 0 where
  ahead : Forward dx dy → Facing dx dy
  back : Backward dx dy → Facing dx dy

-- The edge comes before every edge of the list
pub data AllAfter (dx dy : ℤ) : List Edge → Type 0 where
  none : AllAfter dx dy []
  next : {ex ey : ℤ} {es : List Edge} → Sooner dx dy ex ey → AllAfter dx dy es → AllAfter dx dy ((ex, ey) ∷ es)

-- Every edge comes before all later ones
pub data Rising : List Edge → Type 0 where
  none : Rising []
  next : {dx dy : ℤ} {es : List Edge} → Facing dx dy → AllAfter dx dy es → Rising es → Rising ((dx, dy) ∷ es)

-- The edges from (x, y) on end at (u, v)
pub data Ends : List Edge → ℤ → ℤ → ℤ → ℤ → Type 0 where
  none : {x y : ℤ} → Ends [] x y x y
  next : {es : List Edge} {dx dy x y u v : ℤ} → Ends es (x +ℤ dx) (y +ℤ dy) u v → Ends ((dx, dy) ∷ es) x y u v

-- Among the edges from (x, y) on, the edge (ex, ey) starts at (p, q), and the edges after it are fs
pub data Leaves : List Edge → ℤ → ℤ → ℤ → ℤ → ℤ → ℤ → List Edge → Type 0 where
  first : {es : List Edge} {ex ey x y : ℤ} → Leaves ((ex, ey) ∷ es) x y ex ey x y es
  later : {es fs : List Edge} {dx dy x y ex ey p q : ℤ} → Leaves es (x +ℤ dx) (y +ℤ dy) ex ey p q fs
      → Leaves ((dx, dy) ∷ es) x y ex ey p q fs

leaves_after : {dx dy : ℤ} {es fs : List Edge} {x y ex ey p q : ℤ} → AllAfter dx dy es → Leaves es x y ex ey p q fs → Sooner dx dy ex ey
leaves_after none l = elim l [ ]
leaves_after (next b a) first = b
leaves_after (next b a) (later l) = leaves_after a l

leaves-facing : {es fs : List Edge} {x y ex ey p q : ℤ} → Rising es → Leaves es x y ex ey p q fs → Facing ex ey
leaves-facing none l = elim l [ ]
leaves-facing (next f a r) first = f
leaves-facing (next f a r) (later l) = leaves-facing r l

-- ---- side values of one edge

module _ (ex ey p q : ℤ) where
  -- The side value at (u, v) of the edge (ex, ey) that starts at (p, q)
  abbrev Side : ℤ → ℤ → ℤ
  Side u v = side_value ex ey p q u v

  -- The cross product with another edge: the side value grows by this along that edge
  abbrev With : ℤ → ℤ → ℤ
  With dx dy = cross ex ey dx dy

  -- After the edge: once a cross product is not above 0, side values decrease to that of the end
  after-down :
      {fx fy : ℤ} {es : List Edge} {x y u v s t : ℤ} → Sooner ex ey fx fy → Most0 (With fx fy) → AllAfter fx fy es → Ends es x y s t
      → Least0 (Side s t)
      → Met es x y u v → Least0 (Side u v)
  after-down b l none none i start = i
  after-down {x = x} {y = y} b l (next {ex = gx} {ey = gy} h a) (next w) i start =
      omega (arith, (side-step ex ey p q x y gx gy).eq, falls-after b h l, after-down b l a w i start)
  after-down b l (next h a) (next w) i (after m) = after-down b l a w i m

  -- After the edge: side values increase and then decrease, so none is below both the start's and the end's
  after-edge :
      {es : List Edge} {x y u v s t : ℤ} → AllAfter ex ey es → Rising es → Ends es x y s t → Least0 (Side s t) → Least0 (Side x y)
      → Met es x y u v → Least0 (Side u v)
  after-edge none none none i j start = j
  after-edge (next h a) (next f b r) (next w) i j start = j
  after-edge {x = x} {y = y} (next {ex = gx} {ey = gy} h a) (next f b r) (next w) i j (after m) =
      elim (dec_le (down (With gx gy)) (up (With gx gy))) [
        | yes k ↦ after-edge a r w i (omega (arith, (side-step ex ey p q x y gx gy).eq)) m
        | no k ↦ after-down h (omega arith) b w i m
      ]

  pub edge-end : Is (Side (p +ℤ ex) (q +ℤ ey)) 0 0
  edge-end = record { eq = omega (arith, (side-step ex ey p q p q ex ey).eq, (side-start ex ey p q).eq, (cross-self ex ey).eq) }

  -- From the edge on
  from-edge :
      {es : List Edge} {u v s t : ℤ} → AllAfter ex ey es → Rising es → Ends es (p +ℤ ex) (q +ℤ ey) s t → Least0 (Side s t)
      → Met es (p +ℤ ex) (q +ℤ ey) u v → Least0 (Side u v)
  from-edge a r w i m = after-edge a r w i (omega (arith, edge-end.eq)) m

  -- Before the edge: once a cross product is not above 0, side values decrease to 0, the edge's own
  before-down :
      {es fs : List Edge} {x y u v s t fx fy : ℤ} → Leaves es x y ex ey p q fs → Most0 (With fx fy) → AllAfter fx fy es → Rising es
      → Ends es x y s t → Least0 (Side s t) → Met es x y u v → Least0 (Side u v)
  before-down first l c r w i start = omega (arith, (side-start ex ey p q).eq)
  before-down first l c (next f a r) (next w) i (after m) = from-edge a r w i m
  before-down {x = x} {y = y} (later g) l (next {ex = gx} {ey = gy} h c) (next f a r) (next w) i start =
      omega (arith, (side-step ex ey p q x y gx gy).eq, falls-before h (leaves_after a g) l, before-down g l c r w i start)
  before-down (later g) l (next h c) (next f a r) (next w) i (after m) = before-down g l c r w i m

  -- The whole walk: side values go up and then down to the edge, and from it up and then down to the end
  round :
      {es fs : List Edge} {x y u v s t : ℤ} → Rising es → Leaves es x y ex ey p q fs
      → Ends es x y s t → Least0 (Side s t) → Least0 (Side x y) → Met es x y u v → Least0 (Side u v)
  round r g w i j start = j
  round (next f a r) first (next w) i j (after m) = from-edge a r w i m
  round {x = x} {y = y} (next {dx = gx} {dy = gy} f a r) (later g) (next w) i j (after m) =
      elim (dec_le (down (With gx gy)) (up (With gx gy))) [
        | yes k ↦ round r g w i (omega (arith, (side-step ex ey p q x y gx gy).eq)) m
        | no k ↦ before-down g (omega arith) a r w i m
      ]

  -- A forward edge: side values decrease from the anchor to it
  ahead_step : {dx dy : ℤ} → Forward ex ey → Sooner dx dy ex ey → up (With dx dy) < down (With dx dy)
  ahead_step e (halves d b) = absurd (both_ways e b)
  ahead_step {dx} {dy} e (forwards d f h) = omega (arith, (cross-swap dx dy ex ey).eq)
  ahead_step e (backwards d b h) = absurd (both_ways e b)

  ahead-anchor : {es fs : List Edge} {x y : ℤ} → Forward ex ey → Leaves es x y ex ey p q fs → Rising es → Least0 (Side x y)
  ahead-anchor e first r = omega (arith, (side-start ex ey p q).eq)
  ahead-anchor {x = x} {y = y} e (later g) (next {dx = gx} {dy = gy} f a r) =
      omega (arith, (side-step ex ey p q x y gx gy).eq, ahead_step e (leaves_after a g), ahead-anchor e g r)

  -- A backward edge: side values increase from it to the end
  back_step : {dx dy : ℤ} → Backward ex ey → Sooner ex ey dx dy → Above (With dx dy)
  back_step e (halves f d) = absurd (both_ways f e)
  back_step e (forwards f d h) = absurd (both_ways f e)
  back_step e (backwards f d h) = h

  back_end :
      {es : List Edge} {x y s t : ℤ} → Backward ex ey → AllAfter ex ey es → Ends es x y s t
      → up (Side x y) + down (Side s t) ≤ up (Side s t) + down (Side x y)
  back_end e none none = omega arith
  back_end {x = x} {y = y} e (next {ex = gx} {ey = gy} b a) (next w) =
      omega (arith, (side-step ex ey p q x y gx gy).eq, back_step e b, back_end e a w)

  -- The rest of the walk after the edge
  pub leaves-end : {es fs : List Edge} {x y s t : ℤ} → Leaves es x y ex ey p q fs → Ends es x y s t → Ends fs (p +ℤ ex) (q +ℤ ey) s t
  leaves-end first (next w) = w
  leaves-end (later g) (next w) = leaves-end g w

  leaves-rest : {es fs : List Edge} {x y : ℤ} → Leaves es x y ex ey p q fs → Rising es → AllAfter ex ey fs
  leaves-rest first (next f a r) = a
  leaves-rest (later g) (next f a r) = leaves-rest g r

  -- The anchor of a closed walk is on the inner side
  anchor : {es fs : List Edge} {x y : ℤ} → Rising es → Leaves es x y ex ey p q fs → Ends es x y x y → Least0 (Side x y)
  anchor {x = x} {y = y} r g w = go (leaves-facing r g)
    where
      go : Facing ex ey → Least0 (Side x y)
      go (ahead e) = ahead-anchor e g r
      go (back e) = omega (arith, edge-end.eq, back_end e (leaves-rest g r) (leaves-end g w))

  -- strictly, if the edge is neither the first nor the last
  pub anchor-above :
      {es fs : List Edge} {x y dx dy gx gy : ℤ} → Rising ((dx, dy) ∷ es) → Leaves es (x +ℤ dx) (y +ℤ dy) ex ey p q ((gx, gy) ∷ fs)
      → Ends ((dx, dy) ∷ es) x y x y
      → Above (Side x y)
  anchor-above {es = es} {fs = fs} {x = x} {y = y} {dx = dx} {dy = dy} {gx = gx} {gy = gy} (next f a r) g (next w) = go (leaves-facing r g)
    where
      rest : Backward ex ey → AllAfter ex ey ((gx, gy) ∷ fs) → Ends ((gx, gy) ∷ fs) (p +ℤ ex) (q +ℤ ey) x y → Above (Side x y)
      rest e (next b c) (next v) =
          omega (arith, edge-end.eq, (side-step ex ey p q (p +ℤ ex) (q +ℤ ey) gx gy).eq, back_step e b, back_end e c v)

      go : Facing ex ey → Above (Side x y)
      go (ahead e) = omega (arith, (side-step ex ey p q x y dx dy).eq, ahead_step e (leaves_after a g), ahead-anchor e g r)
      go (back e) = rest e (leaves-rest g r) (leaves-end g w)

-- Every corner cell is on the inner side of every edge
pub inner-side :
    {es fs : List Edge} {x y u v ex ey p q : ℤ} → Rising es → Ends es x y x y → Met es x y u v → Leaves es x y ex ey p q fs
    → Least0 (side_value ex ey p q u v)
inner-side {ex = ex} {ey = ey} {p = p} {q = q} r w m g =
    let i = anchor ex ey p q r g w in
    round ex ey p q r g w i i m
