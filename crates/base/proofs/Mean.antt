-- A mean of three numbers with natural weights: a linear map of the three numbers maps
-- the mean in the same way, since the weights distribute.
use Prim.Native.Nat.{ℕ, ◌+◌, ◌*◌, ◌≤◌, ◌<◌}
use native.Mathlib.Nat.{mul-le-mul_left, le_of_mul-le-mul_left}
use native.Mathlib.Omega.{arith}
use mathlib.Core.Path.{◌≡◌, ap}

-- x is the mean of u, v and w with the weights a, b and c
abbrev pub Mean : (a b c x u v w : ℕ) → Type 0
Mean a b c x u v w = (a + b + c) * x ≡ a * u + b * v + c * w

pub mean-same : (a b c k : ℕ) → Mean a b c k k k k
mean-same a b c k = omega arith

pub mean-line : (i k a b c x u v w : ℕ) → Mean a b c x u v w → Mean a b c (i * x + k) (i * u + k) (i * v + k) (i * w + k)
mean-line i k a b c x u v w h = omega (arith, ap (λ n. i * n) h)

pub mean-times : (i a b c x u v w : ℕ) → Mean a b c x u v w → Mean a b c (i * x) (i * u) (i * v) (i * w)
mean-times i a b c x u v w h = omega (arith, ap (λ n. i * n) h)

pub mean-add : (a b c x u v w y u' v' w' : ℕ) → Mean a b c x u v w → Mean a b c y u' v' w' → Mean a b c (x + y) (u + u') (v + v') (w + w')
mean-add a b c x u v w y u' v' w' h h' = omega arith

-- Counted from the other end of a distance k
pub mean-mirror : (k a b c x u v w x' u' v' w' : ℕ) → x + x' ≡ k → u + u' ≡ k → v + v' ≡ k → w + w' ≡ k → Mean a b c x u v w
    → Mean a b c x' u' v' w'
mean-mirror k a b c x u v w x' u' v' w' d e f g h =
    omega (arith, ap (λ n. (a + b + c) * n) d, ap (λ n. a * n) e, ap (λ n. b * n) f, ap (λ n. c * n) g)

-- Means with the same weights are ordered as their numbers are
pub mean-le :
    (a b c x u v w y u' v' w' : ℕ) → 0 < a + b + c → Mean a b c x u v w → Mean a b c y u' v' w' → u ≤ u' → v ≤ v' → w ≤ w' → x ≤ y
mean-le a b c x u v w y u' v' w' p h h' i j k =
    let n : (a + b + c) * x ≤ (a + b + c) * y = omega (arith, mul-le-mul_left a i, mul-le-mul_left b j, mul-le-mul_left c k) in
    le_of_mul-le-mul_left n p

pub mean-at-most : (a b c x u v w m : ℕ) → 0 < a + b + c → Mean a b c x u v w → u ≤ m → v ≤ m → w ≤ m → x ≤ m
mean-at-most a b c x u v w m p h = mean-le a b c x u v w m m m m p h (mean-same a b c m)

pub mean-at-least : (a b c x u v w m : ℕ) → 0 < a + b + c → Mean a b c x u v w → m ≤ u → m ≤ v → m ≤ w → m ≤ x
mean-at-least a b c x u v w m p h = mean-le a b c m m m m x u v w p (mean-same a b c m) h
