-- A difference, and a product by a whole number, is one fraction that is rounded once, so it lies within half a place of the exact value;
-- a whole number of few digits is a float.
use Prim.Native.Nat.{ℕ, suc, ◌+◌, ◌-◌, ◌*◌, ◌^◌, ◌≤◌, ◌<◌}
use native.Mathlib.Nat.{le_of_lt, lt_of_lt_of_le, mul-le-mul_right, mul-lt-mul_of_pos_right, le_of_mul-le-mul_right, mul-pos, mul-one}
use native.Mathlib.Omega.{arith}
use mathlib.Core.Path.{◌≡◌, refl, sym, ap, subst}
use mathlib.Core.Bool.{Bool, true, false, not, cond}
use lib.IntN.{pos, negsuc}
use lib.Dec.{T, ltb, ltb→lt, nltb→le}
use lib.Pow.{pow_pos, pow_mono, shl_lt}
use lib.Ieee.{Float, nan, inf, fin, Format, prec, emax, low, up, down, unlike, round, sum, sub, mul, of_int}
use lib.Ieee.Fits.{down_pos, reach}
use lib.Ieee.Exact.{HasValue, round_exact}
use lib.Ieee.Scale.{grid}
use Rattle.rounding.specs.Units.{negative, units}
use Rattle.rounding.proofs.Round.{Rounded, round-near}
use Rattle.rounding.proofs.Values.{above, below, Exact, exact-of, above-is, below-is, over-left, over-right}

-- The float x is finite and within half of 2 ^ t units of the exact value a - b.
-- Both sides are doubled, so that the half is a whole number
pub record Rounds (f : Format) (x : Float) (a b t : ℕ) : Type 0 where
  pub exact : Exact f x
  pub over : (above f x + b) * 2 ≤ (a + below f x) * 2 + 2 ^ t
  pub under : (a + below f x) * 2 ≤ (above f x + b) * 2 + 2 ^ t

-- ---- how far rounding moves a whole number w of units that is below a power of two

cancel-over : (g w n den p : ℕ) → 0 < den → n ≡ w * den → g * den * 2 ≤ n * 2 + den * p → g * 2 ≤ w * 2 + p
cancel-over g w n den p D e h = le_of_mul-le-mul_right {k = den} (omega arith) D

cancel-under : (g w n den p : ℕ) → 0 < den → n ≡ w * den → n * 2 ≤ g * den * 2 + den * p → w * 2 ≤ g * 2 + p
cancel-under g w n den p D e h = le_of_mul-le-mul_right {k = den} (omega arith) D

pub round-units :
    (f : Format) (s : Bool) (num den w t : ℕ) → 0 < den → prec f + t ≤ low f + emax f → num * 2 ^ low f ≡ w * den → w < 2 ^ (prec f + t)
    → Rounds f (round f s num den) (cond s 0 w) (cond s w 0) t
round-units f s num den w t D fine e h =
    let r : Rounded f s num den t = round-near f s num den t D fine (rw e (mul-lt-mul_of_pos_right h D)) in
    let g = grid f num den in
    let a : above f (round f s num den) ≡ cond s 0 g = above-is f (round f s num den) s g r.value in
    let b : below f (round f s num den) ≡ cond s g 0 = below-is f (round f s num den) s g r.value in
    let o : g * 2 ≤ w * 2 + 2 ^ t = cancel-over g w (num * 2 ^ low f) den (2 ^ t) D e r.over in
    let u : w * 2 ≤ g * 2 + 2 ^ t = cancel-under g w (num * 2 ^ low f) den (2 ^ t) D e r.under in
    record {
      exact = exact-of f (round f s num den) s g r.value;
      over = rw (a, b) (signed s g w (2 ^ t) o u).0;
      under = rw (a, b) (signed s g w (2 ^ t) o u).1;
    }
  where
    signed :
        (s : Bool) (g w p : ℕ) → g * 2 ≤ w * 2 + p → w * 2 ≤ g * 2 + p
        → ((cond s 0 g + cond s w 0) * 2 ≤ (cond s 0 w + cond s g 0) * 2 + p)
        × ((cond s 0 w + cond s g 0) * 2 ≤ (cond s 0 g + cond s w 0) * 2 + p)
    signed true g w p o u = omega arith
    signed false g w p o u = omega arith

-- The exact value written as another difference
rounds-as : (f : Format) (x : Float) (a b c d t : ℕ) → a + d ≡ c + b → Rounds f x a b t → Rounds f x c d t
rounds-as f x a b c d t e n = record { exact = n.exact; over = omega arith; under = omega arith }

-- ---- sums and differences

-- The difference of two fractions with the same divisor c, where the first is not smaller
difference : (a b d v w z c u : ℕ) → a ≡ b + d → v ≡ w + z → a * u ≡ v * c → b * u ≡ w * c → d * u ≡ z * c
difference a b d v w z c u p q x y = omega (arith, ap (λ (n : ℕ). n * u) p, ap (λ (n : ℕ). n * c) q)

in_order : (f : Format) (a b c v w : ℕ) → 0 < c → a * 2 ^ low f ≡ v * c → b * 2 ^ low f ≡ w * c → a ≤ b → v ≤ w
in_order f a b c v w C p q l = le_of_mul-le-mul_right {k = c} (omega (arith, mul-le-mul_right (2 ^ low f) l)) C

round-difference :
    (f : Format) (s : Bool) (a b c v w t : ℕ) → 0 < c → prec f + t ≤ low f + emax f → a * 2 ^ low f ≡ v * c → b * 2 ^ low f ≡ w * c → b ≤ a
    → v < w + 2 ^ (prec f + t)
    → Rounds f (round f s (a - b) c) (cond s w v) (cond s v w) t
round-difference f s a b c v w t C fine p q l h =
    let k : w ≤ v = in_order f b a c w v C q p l in
    let e : (a - b) * 2 ^ low f ≡ (v - w) * c = difference a b (a - b) v w (v - w) c (2 ^ low f) (omega arith) (omega arith) p q in
    rounds-as f (round f s (a - b) c) (cond s 0 (v - w)) (cond s (v - w) 0) (cond s w v) (cond s v w) t (exchanged s k)
    (round-units f s (a - b) c (v - w) t C fine e (omega arith))
  where
    exchanged : (s : Bool) → w ≤ v → cond s 0 (v - w) + cond s v w ≡ cond s w v + cond s (v - w) 0
    exchanged true k = omega arith
    exchanged false k = omega arith

sum-rounds :
    (f : Format) (s : Bool) (a : ℕ) (r : Bool) (b c v w t : ℕ) → 0 < c → prec f + t ≤ low f + emax f → a * 2 ^ low f ≡ v * c
    → b * 2 ^ low f ≡ w * c
    → cond s 0 v + cond r 0 w < cond s v 0 + cond r w 0 + 2 ^ (prec f + t)
    → cond s v 0 + cond r w 0 < cond s 0 v + cond r 0 w + 2 ^ (prec f + t)
    → Rounds f (sum f s a r b c) (cond s 0 v + cond r 0 w) (cond s v 0 + cond r w 0) t
unfolding sum
sum-rounds f false a false b c v w t C fine p q h k =
    rounds-as f (round f false (a + b) c) (v + w) 0 (v + w) 0 t refl
    (round-units f false (a + b) c (v + w) t C fine (omega arith) (omega arith))
sum-rounds f true a true b c v w t C fine p q h k =
    rounds-as f (round f true (a + b) c) 0 (v + w) 0 (v + w) t refl
    (round-units f true (a + b) c (v + w) t C fine (omega arith) (omega arith))
sum-rounds f false a true b c v w t C fine p q h k = go (ltb a b) (ltb→lt a b) (nltb→le a b)
  where
    go : (x : Bool) → (T x → a < b) → (T (not x) → b ≤ a)
        → Rounds f (cond x (round f true (b - a) c) (round f false (a - b) c)) (v + 0) (0 + w) t
    go true l g =
        rounds-as f (round f true (b - a) c) v w (v + 0) (0 + w) t (omega arith)
        (round-difference f true b a c w v t C fine q p (le_of_lt (l tt)) (omega arith))
    go false l g =
        rounds-as f (round f false (a - b) c) v w (v + 0) (0 + w) t (omega arith)
        (round-difference f false a b c v w t C fine p q (g tt) (omega arith))
sum-rounds f true a false b c v w t C fine p q h k = go (ltb a b) (ltb b a) (ltb→lt a b) (nltb→le a b) (nltb→le b a)
  where
    go :
        (x y : Bool) → (T x → a < b) → (T (not x) → b ≤ a) → (T (not y) → a ≤ b)
        → Rounds f (cond x (round f false (b - a) c) (round f y (a - b) c)) (0 + w) (v + 0) t
    go true y l g n =
        rounds-as f (round f false (b - a) c) w v (0 + w) (v + 0) t (omega arith)
        (round-difference f false b a c w v t C fine q p (le_of_lt (l tt)) (omega arith))
    go false true l g n =
        rounds-as f (round f true (a - b) c) w v (0 + w) (v + 0) t (omega arith)
        (round-difference f true a b c v w t C fine p q (g tt) (omega arith))
    go false false l g n =
        rounds-as f (round f false (a - b) c) v w (0 + w) (v + 0) t
        (omega (arith, in_order f a b c v w C p q (n tt), in_order f b a c w v C q p (g tt)))
        (round-difference f false a b c v w t C fine p q (g tt) (omega arith))

-- x - y, if its size is below 2 ^ (prec + t) units
pub sub-rounds :
    (f : Format) (x y : Float) (t : ℕ) → Exact f x → Exact f y → prec f + t ≤ low f + emax f
    → above f x + below f y < below f x + above f y + 2 ^ (prec f + t) → below f x + above f y < above f x + below f y + 2 ^ (prec f + t)
    → Rounds f (sub f x y) (above f x + below f y) (below f x + above f y) t
unfolding sub above below negative
sub-rounds f nan y t p q fine h k = absurd p.is
sub-rounds f (inf s) y t p q fine h k = absurd p.is
sub-rounds f (fin s m e) nan t p q fine h k = absurd q.is
sub-rounds f (fin s m e) (inf r) t p q fine h k = absurd q.is
sub-rounds f (fin s m e) (fin false n d) t p q fine h k =
    sum-rounds f s (m * up e * down d) true (n * up d * down e) (down e * down d) (units f (fin s m e)) (units f (fin false n d)) t
    (mul-pos (down_pos e) (down_pos d)) fine
    (over-left (m * up e) (2 ^ low f) (units f (fin s m e)) (down e) (down d) p.is.1)
    (over-right (n * up d) (2 ^ low f) (units f (fin false n d)) (down d) (down e) q.is.1)
    h k
sub-rounds f (fin s m e) (fin true n d) t p q fine h k =
    sum-rounds f s (m * up e * down d) false (n * up d * down e) (down e * down d) (units f (fin s m e)) (units f (fin true n d)) t
    (mul-pos (down_pos e) (down_pos d)) fine
    (over-left (m * up e) (2 ^ low f) (units f (fin s m e)) (down e) (down d) p.is.1)
    (over-right (n * up d) (2 ^ low f) (units f (fin true n d)) (down d) (down e) q.is.1)
    h k

-- ---- the product by a whole number

product : (a n d b u w g : ℕ) → a * 1 ≡ n * d → b * u ≡ w * g → a * b * u ≡ n * w * (d * g)
product a n d b u w g p q = omega (arith, ap (λ (z : ℕ). z * (b * u)) p, ap (λ (z : ℕ). n * d * z) q)

-- n * w with the sign of the product: n has the sign s, and w the sign r
product-rounds :
    (f : Format) (z : Float) (s r : Bool) (n w t : ℕ) → Rounds f z (cond (unlike s r) 0 (n * w)) (cond (unlike s r) (n * w) 0) t
    → Rounds f z (n * cond s (cond r w 0) (cond r 0 w)) (n * cond s (cond r 0 w) (cond r w 0)) t
product-rounds f z true true n w t h = rounds-as f z (n * w) 0 (n * w) (n * 0) t (omega arith) h
product-rounds f z true false n w t h = rounds-as f z 0 (n * w) (n * 0) (n * w) t (omega arith) h
product-rounds f z false true n w t h = rounds-as f z 0 (n * w) (n * 0) (n * w) t (omega arith) h
product-rounds f z false false n w t h = rounds-as f z (n * w) 0 (n * w) (n * 0) t (omega arith) h

magnitude : (r : Bool) (n w p : ℕ) → n * (cond r 0 w + cond r w 0) < p → n * w < p
magnitude true n w p h = omega arith
magnitude false n w p h = omega arith

-- x * y, where x is the whole number n with the sign s, if the size of the product is below 2 ^ (prec + t) units
pub mul-rounds :
    (f : Format) (x y : Float) (s : Bool) (n t : ℕ) → HasValue x s n 1 → Exact f y → prec f + t ≤ low f + emax f
    → n * (above f y + below f y) < 2 ^ (prec f + t)
    → Rounds f (mul f x y) (n * cond s (below f y) (above f y)) (n * cond s (above f y) (below f y)) t
unfolding mul above below negative
mul-rounds f nan y s n t p q fine h = absurd p
mul-rounds f (inf s') y s n t p q fine h = absurd p
mul-rounds f (fin s' m e) nan s n t p q fine h = absurd q.is
mul-rounds f (fin s' m e) (inf r) s n t p q fine h = absurd q.is
mul-rounds f (fin s' m e) (fin r k d) s n t p q fine h =
    let w = units f (fin r k d) in
    let z = round f (unlike s' r) (m * up e * (k * up d)) (down e * down d) in
    subst (λ (x : Bool). Rounds f z (n * cond x (cond r w 0) (cond r 0 w)) (n * cond x (cond r 0 w) (cond r w 0)) t) p.0
    (product-rounds f z s' r n w t
    (round-units f (unlike s' r) (m * up e * (k * up d)) (down e * down d) (n * w) t (mul-pos (down_pos e) (down_pos d)) fine
    (product (m * up e) n (down e) (k * up d) (2 ^ low f) w (down d) p.1 q.is.1) (magnitude r n w (2 ^ (prec f + t)) h)))

-- ---- a whole number as a float

whole-exact : (f : Format) (s : Bool) (n : ℕ) → n < 2 ^ prec f → HasValue (round f s n 1) s n 1
whole-exact f s n h =
    round_exact f s n 1 n (low f) (pow_pos 0) h
    (lt_of_lt_of_le (shl_lt (prec f) (low f) h) (pow_mono (omega (arith, reach f))))
    (sym (mul-one (n * 2 ^ low f)))

pub of_int-pos : (f : Format) (n : ℕ) → n < 2 ^ prec f → HasValue (of_int f (pos n)) false n 1
unfolding of_int
of_int-pos f n h = whole-exact f false n h

pub of_int-neg : (f : Format) (n : ℕ) → suc n < 2 ^ prec f → HasValue (of_int f (negsuc n)) true (suc n) 1
unfolding of_int
of_int-neg f n h = whole-exact f true (suc n) h
