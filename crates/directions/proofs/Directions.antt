-- The order of directions is transitive: among those from up to just short of down the
-- cross product's sign decides, and the others are their opposites.
-- A direction is forward (from up, included, to down, excluded) or backward.
use Prim.Native.Nat.{ℕ, zero, suc, ◌+◌, ◌*◌, ◌≤◌, ◌<◌}
use native.Mathlib.Nat.{mul-le-mul_right, mul-lt-mul_of_pos_right, lt_of_mul-lt-mul_left}
use native.Mathlib.Omega.{arith}
use lib.IntN.{ℤ, pos, negsuc, neg_ℤ}
use Rattle.directions.specs.Round.{cross}
use Rattle.base.proofs.IntegerOrder.{up, down}
use Rattle.base.proofs.Differences.{Is, is-self}
use Rattle.directions.proofs.Cross.{is-cross, cross-swap, cross-back, cross-front, cross-opposites}

-- z is above 0; z is at least 0; z is at most 0
abbrev pub Above : ℤ → Type 0
Above z = down z < up z

abbrev pub Least0 : ℤ → Type 0
Least0 z = down z ≤ up z

abbrev pub Most0 : ℤ → Type 0
Most0 z = up z ≤ down z

-- From up, included, clockwise to down, excluded; and the other half
pub data Forward : ℤ → ℤ → Type 0 where
  across : {n : ℕ} {dy : ℤ} → Forward (pos (suc n)) dy
  upward : {n : ℕ} → Forward (pos zero) (pos (suc n))

pub data Backward : ℤ → ℤ → Type 0 where
  across : {n : ℕ} {dy : ℤ} → Backward (negsuc n) dy
  downward : {n : ℕ} → Backward (pos zero) (negsuc n)

pub opposite : {dx dy : ℤ} → Backward dx dy → Forward (neg_ℤ dx) (neg_ℤ dy)
opposite across = across
opposite downward = upward

-- With columns a, c, p as naturals and rows b - b', d - d', q - q': three decreasing slopes
slopes :
    (a b b' c d d' p q q' : ℕ) → 0 < c → 0 < a → b' * c + a * d ≤ b * c + a * d' → d' * p + c * q < d * p + c * q'
    → b' * p + a * q < b * p + a * q'
slopes a b b' c d d' p q q' hc ha h k =
    lt_of_mul-lt-mul_left c (omega (arith, mul-le-mul_right p h, mul-lt-mul_of_pos_right {k = a} k ha))

flat-cross : (a : ℕ) (dy : ℤ) (c : ℕ) (ey : ℤ) → Is (cross (pos a) dy (pos c) ey) (up dy * c + a * down ey) (down dy * c + a * up ey)
flat-cross a dy c ey = record { eq = omega (arith, (is-cross (is-self (pos a)) (is-self dy) (is-self (pos c)) (is-self ey)).eq) }

-- Among forward directions the order is transitive, also if the first two are equal
pub chain :
    {dx dy ex ey fx fy : ℤ} → Forward dx dy → Forward ex ey → Forward fx fy → Least0 (cross dx dy ex ey) → Above (cross ex ey fx fy)
    → Above (cross dx dy fx fy)
chain {dy = dy} {ey = ey} {fy = fy} (across {n = a}) (across {n = c}) (across {n = p}) h k =
    let m = (flat-cross (suc a) dy (suc c) ey).eq in
    let n = (flat-cross (suc c) ey (suc p) fy).eq in
    omega (
      arith,
      (flat-cross (suc a) dy (suc p) fy).eq,
      slopes (suc a) (up dy) (down dy) (suc c) (up ey) (down ey) (suc p) (up fy) (down fy) (omega arith) (omega arith) (omega arith)
          (omega arith),
    )
chain {dy = dy} {ey = ey} {fy = fy} (across {n = a}) (across {n = c}) upward h k =
    omega (arith, (flat-cross (suc c) ey 0 fy).eq)
chain {dy = dy} {ey = ey} {fy = fy} (across {n = a}) upward z h k = absurd (omega (arith, (flat-cross (suc a) dy 0 ey).eq))
chain {dy = dy} {ey = ey} {fy = fy} upward (across {n = c}) (across {n = p}) h k = omega (arith, (flat-cross 0 dy (suc p) fy).eq)
chain {dy = dy} {ey = ey} {fy = fy} upward (across {n = c}) upward h k = absurd (omega (arith, (flat-cross (suc c) ey 0 fy).eq))
chain {dy = dy} {ey = ey} {fy = fy} upward upward (across {n = p}) h k = omega (arith, (flat-cross 0 dy (suc p) fy).eq)
chain {dy = dy} {ey = ey} {fy = fy} upward upward upward h k = absurd (omega (arith, (flat-cross 0 ey 0 fy).eq))

-- ---- all directions

-- (dx, dy) comes before (ex, ey) in the order from up
pub data Sooner (dx dy ex ey : ℤ) : Type 0 where
  halves : Forward dx dy → Backward ex ey → Sooner dx dy ex ey
  forwards : Forward dx dy → Forward ex ey → Above (cross dx dy ex ey) → Sooner dx dy ex ey
  backwards : Backward dx dy → Backward ex ey → Above (cross dx dy ex ey) → Sooner dx dy ex ey

pub both_ways : {dx dy : ℤ} → Forward dx dy → Backward dx dy → ⊥
both_ways across = elim [ ]
both_ways upward = elim [ ]

-- The opposites of backward directions
backs-chain :
    {dx dy ex ey fx fy : ℤ} → Backward dx dy → Backward ex ey → Backward fx fy → Above (cross dx dy ex ey) → Above (cross ex ey fx fy)
    → Above (cross dx dy fx fy)
backs-chain {dx} {dy} {ex} {ey} {fx} {fy} d e f h k =
    omega (
      arith,
      (cross-opposites dx dy fx fy).eq,
      chain (opposite d) (opposite e) (opposite f) (omega (arith, (cross-opposites dx dy ex ey).eq))
          (omega (arith, (cross-opposites ex ey fx fy).eq)),
    )

pub precedes-trans : {dx dy ex ey fx fy : ℤ} → Sooner dx dy ex ey → Sooner ex ey fx fy → Sooner dx dy fx fy
precedes-trans (halves d e) (halves e' f) = absurd (both_ways e' e)
precedes-trans (halves d e) (forwards e' f k) = absurd (both_ways e' e)
precedes-trans (halves d e) (backwards e' f k) = halves d f
precedes-trans (forwards d e h) (halves e' f) = halves d f
precedes-trans (forwards d e h) (forwards e' f k) = forwards d f (chain d e f (omega arith) k)
precedes-trans (forwards d e h) (backwards e' f k) = absurd (both_ways e e')
precedes-trans (backwards d e h) (halves e' f) = absurd (both_ways e' e)
precedes-trans (backwards d e h) (forwards e' f k) = absurd (both_ways e' e)
precedes-trans (backwards d e h) (backwards e' f k) = backwards d f (backs-chain d e f h k)

-- For one edge, the cross products with later edges become negative once and stay so
pub falls-after :
    {ex ey fx fy gx gy : ℤ} → Sooner ex ey fx fy → Sooner fx fy gx gy → Most0 (cross ex ey fx fy) → Most0 (cross ex ey gx gy)
falls-after (forwards e f h) k l = absurd (omega arith)
falls-after (backwards e f h) k l = absurd (omega arith)
falls-after (halves e f) (halves f' g) l = absurd (both_ways f' f)
falls-after (halves e f) (forwards f' g k) l = absurd (both_ways f' f)
falls-after {ex} {ey} {fx} {fy} {gx} {gy} (halves e f) (backwards f' g k) l =
    omega (
      arith,
      (cross-back ex ey gx gy).eq,
      chain e (opposite f) (opposite g) (omega (arith, (cross-back ex ey fx fy).eq)) (omega (arith, (cross-opposites fx fy gx gy).eq)),
    )

-- and so do those with earlier edges
pub falls-before :
    {ex ey fx fy gx gy : ℤ} → Sooner fx fy gx gy → Sooner gx gy ex ey → Most0 (cross ex ey fx fy) → Most0 (cross ex ey gx gy)
falls-before {ex} {ey} {fx} {fy} {gx} {gy} h (forwards g e k) l = omega (arith, (cross-swap gx gy ex ey).eq)
falls-before {ex} {ey} {fx} {fy} {gx} {gy} h (backwards g e k) l = omega (arith, (cross-swap gx gy ex ey).eq)
falls-before (halves f g) (halves g' e) l = absurd (both_ways g' g)
falls-before (backwards f g h) (halves g' e) l = absurd (both_ways g' g)
falls-before {ex} {ey} {fx} {fy} {gx} {gy} (forwards f g h) (halves g' e) l =
    omega (arith, (cross-front ex ey gx gy).eq, chain (opposite e) f g (omega (arith, (cross-front ex ey fx fy).eq)) h)
