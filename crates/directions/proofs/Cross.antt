-- Cross products and side values as differences of naturals: both are linear in the
-- second vector, so one more step adds its own cross product.
use Prim.Native.Nat.{ℕ, ◌+◌, ◌*◌}
use native.Mathlib.Omega.{arith}
use mathlib.Core.Path.{◌≡◌, refl}
use lib.IntN.{ℤ, neg_ℤ, ◌+ℤ◌, ◌-ℤ◌}
use Rattle.convexity.specs.Inside.{side_value}
use Rattle.base.proofs.IntegerOrder.{up, down}
use Rattle.base.proofs.Differences.{Is, is-self, is-neg, is-add, is-minus, is_mul}
use Rattle.directions.specs.Round.{cross}

pub is-cross :
    {dx dy ex ey : ℤ} {a a' b b' c c' d d' : ℕ} → Is dx a a' → Is dy b b' → Is ex c c' → Is ey d d'
    → Is (cross dx dy ex ey) (b * c + b' * c' + (a * d' + a' * d)) (b * c' + b' * c + (a * d + a' * d'))
unfolding cross
is-cross h k l m = is-minus (is_mul k l) (is_mul h m)

-- A side value is the cross product of the edge with the vector to the cell
pub side-cross : (dx dy x y c r : ℤ) → side_value dx dy x y c r ≡ cross dx dy (c -ℤ x) (r -ℤ y)
unfolding side_value cross
side-cross dx dy x y c r = refl

further : (u f x : ℤ) → Is ((u +ℤ f) -ℤ x) (up (u -ℤ x) + up f) (down (u -ℤ x) + down f)
further u f x =
    let a = is-minus (is-add (is-self u) (is-self f)) (is-self x) in
    let b = is-minus (is-self u) (is-self x) in
    record { eq = omega (arith, a.eq, b.eq) }

-- After one more step (fx, fy) the side value is larger by the cross product
pub side-step :
    (ex ey x y u v fx fy : ℤ)
    → Is (side_value ex ey x y (u +ℤ fx) (v +ℤ fy)) (up (side_value ex ey x y u v) + up (cross ex ey fx fy))
    (down (side_value ex ey x y u v) + down (cross ex ey fx fy))
side-step ex ey x y u v fx fy =
    let a = is-cross (is-self ex) (is-self ey) (further u fx x) (further v fy y) in
    let b = is-cross (is-self ex) (is-self ey) (is-self (u -ℤ x)) (is-self (v -ℤ y)) in
    let c = is-cross (is-self ex) (is-self ey) (is-self fx) (is-self fy) in
    rw (side-cross ex ey x y (u +ℤ fx) (v +ℤ fy), side-cross ex ey x y u v) (record { eq = omega (arith, a.eq, b.eq, c.eq) })

-- The corner cell where an edge starts is on its line
pub nil-difference : (x : ℤ) → Is (x -ℤ x) 0 0
nil-difference x = record { eq = omega (arith, (is-minus (is-self x) (is-self x)).eq) }

pub side-start : (ex ey x y : ℤ) → Is (side_value ex ey x y x y) 0 0
side-start ex ey x y =
    rw side-cross (record { eq = omega (arith, (is-cross (is-self ex) (is-self ey) (nil-difference x) (nil-difference y)).eq) })

pub cross-self : (ex ey : ℤ) → Is (cross ex ey ex ey) 0 0
cross-self ex ey = record { eq = omega (arith, (is-cross (is-self ex) (is-self ey) (is-self ex) (is-self ey)).eq) }

pub cross-swap : (dx dy ex ey : ℤ) → Is (cross ex ey dx dy) (down (cross dx dy ex ey)) (up (cross dx dy ex ey))
cross-swap dx dy ex ey =
    let a = is-cross (is-self ex) (is-self ey) (is-self dx) (is-self dy) in
    let b = is-cross (is-self dx) (is-self dy) (is-self ex) (is-self ey) in
    record { eq = omega (arith, a.eq, b.eq) }

-- With the second vector negated, the first, or both
pub cross-back : (dx dy ex ey : ℤ) → Is (cross dx dy (neg_ℤ ex) (neg_ℤ ey)) (down (cross dx dy ex ey)) (up (cross dx dy ex ey))
cross-back dx dy ex ey =
    let a = is-cross (is-self dx) (is-self dy) (is-neg (is-self ex)) (is-neg (is-self ey)) in
    let b = is-cross (is-self dx) (is-self dy) (is-self ex) (is-self ey) in
    record { eq = omega (arith, a.eq, b.eq) }

pub cross-front : (dx dy ex ey : ℤ) → Is (cross (neg_ℤ dx) (neg_ℤ dy) ex ey) (down (cross dx dy ex ey)) (up (cross dx dy ex ey))
cross-front dx dy ex ey =
    let a = is-cross (is-neg (is-self dx)) (is-neg (is-self dy)) (is-self ex) (is-self ey) in
    let b = is-cross (is-self dx) (is-self dy) (is-self ex) (is-self ey) in
    record { eq = omega (arith, a.eq, b.eq) }

pub cross-opposites : (dx dy ex ey : ℤ)
    → Is (cross (neg_ℤ dx) (neg_ℤ dy) (neg_ℤ ex) (neg_ℤ ey)) (up (cross dx dy ex ey)) (down (cross dx dy ex ey))
cross-opposites dx dy ex ey = record { eq = omega (arith, (cross-back (neg_ℤ dx) (neg_ℤ dy) ex ey).eq, (cross-front dx dy ex ey).eq) }

-- The cross product is additive in its first vector too
pub cross-step :
    (ax ay dx dy px py : ℤ)
    → Is (cross (ax +ℤ dx) (ay +ℤ dy) px py) (up (cross ax ay px py) + up (cross dx dy px py))
    (down (cross ax ay px py) + down (cross dx dy px py))
cross-step ax ay dx dy px py =
    let a = is-cross (is-add (is-self ax) (is-self dx)) (is-add (is-self ay) (is-self dy)) (is-self px) (is-self py) in
    let b = is-cross (is-self ax) (is-self ay) (is-self px) (is-self py) in
    let c = is-cross (is-self dx) (is-self dy) (is-self px) (is-self py) in
    record { eq = omega (arith, a.eq, b.eq, c.eq) }
