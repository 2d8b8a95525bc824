-- Over the integers, an operation's result lies near the exact value, since rounding
-- moves it by at most half a unit in the last digit kept.
use Prim.Native.Nat.{ℕ, suc, ◌+◌, ◌*◌, ◌^◌, ◌≤◌, ◌<◌}
use native.Mathlib.Nat.{two-pow-succ}
use native.Mathlib.Omega.{arith}
use mathlib.Core.Path.{◌≡◌, ◌∙◌}
use mathlib.Core.Bool.{Bool, true, false, cond}
use lib.IntN.{ℤ, pos, negsuc, neg_ℤ, nat_abs, ◌-ℤ◌, ◌*ℤ◌}
use lib.Ieee.{Float, Format, prec, emax, low, sub, mul, of_int}
use lib.Ieee.Exact.{HasValue}
use Rattle.base.proofs.Differences.{Is, is-self, is-unique, is-minus, is_mul}
use Rattle.base.proofs.Sizes.{size-neg, size-parts, size-at-most, size-product}
use Rattle.rounding.specs.Units.{negative, units, value, in_units}
use Rattle.rounding.proofs.Values.{above, below, Exact, value-is, exact-of, above-is, below-is, whole-value}
use Rattle.rounding.proofs.Operations.{Rounds, sub-rounds, mul-rounds, of_int-pos, of_int-neg}

-- The float x is finite and at most e units from the value z
pub record Near (f : Format) (x : Float) (z : ℤ) (e : ℕ) : Type 0 where
  pub exact : Exact f x
  pub near : nat_abs (value f x -ℤ z) ≤ e

-- Half of 2 ^ (t + 1) is 2 ^ t
near_of : (f : Format) (x : Float) (t : ℕ) {z : ℤ} {a b : ℕ} → Is z a b → Rounds f x a b (suc t) → Near f x z (2 ^ t)
near_of f x t {a = a} {b = b} h r =
    let p = two-pow-succ t in
    record { exact = r.exact; near = size-at-most (2 ^ t) (is-minus (value-is f x) h) (omega (arith, r.over)) (omega (arith, r.under)) }

-- A value's size is its units
size-units : (f : Format) (x : Float) → nat_abs (value f x) ≡ above f x + below f x
unfolding value above below
size-units f x = go (negative x) (units f x)
  where
    go : (s : Bool) (w : ℕ) → nat_abs (cond s (neg_ℤ (pos w)) (pos w)) ≡ cond s 0 w + cond s w 0
    go true w = size-neg (pos w) ∙ omega arith
    go false w = omega arith

-- A difference of fewer than 2 ^ (prec + 1 + t) units moves by at most 2 ^ t
pub sub-near :
    (f : Format) (x y : Float) (t : ℕ) → Exact f x → Exact f y → prec f + suc t ≤ low f + emax f
    → nat_abs (value f x -ℤ value f y) < 2 ^ (prec f + suc t)
    → Near f (sub f x y) (value f x -ℤ value f y) (2 ^ t)
sub-near f x y t p q fine h =
    let d = is-minus (value-is f x) (value-is f y) in
    near_of f (sub f x y) t d (sub-rounds f x y (suc t) p q fine (omega (arith, size-parts d)) (omega (arith, size-parts d)))

-- A whole number z with no more digits than the format keeps
record Whole (f : Format) (z : ℤ) : Type 0 where
  sign : Bool
  has : HasValue (of_int f z) sign (nat_abs z) 1
  is : Is z (cond sign 0 (nat_abs z)) (cond sign (nat_abs z) 0)

whole : (f : Format) (z : ℤ) → nat_abs z < 2 ^ prec f → Whole f z
whole f (pos n) h = record { sign = false; has = of_int-pos f n h; is = is-self (pos n) }
whole f (negsuc n) h = record { sign = true; has = of_int-neg f n h; is = is-self (negsuc n) }

-- Such a number is a float exactly
pub whole-exact : (f : Format) (z : ℤ) → nat_abs z < 2 ^ prec f → Exact f (of_int f z)
whole-exact f z h =
    let w = whole f z h in
    exact-of f (of_int f z) w.sign (nat_abs z * 2 ^ low f) (whole-value f (of_int f z) w.sign (nat_abs z) w.has)

pub whole_is : (f : Format) (z : ℤ) → nat_abs z < 2 ^ prec f → value f (of_int f z) ≡ in_units f z
unfolding in_units
whole_is f z h =
    let w = whole f z h in
    let v = whole-value f (of_int f z) w.sign (nat_abs z) w.has in
    is-unique (value-is f (of_int f z)) (is_mul w.is (is-self (pos (2 ^ low f))))
    (parts w.sign (nat_abs z) (2 ^ low f) (above f (of_int f z)) (below f (of_int f z))
    (above-is f (of_int f z) w.sign (nat_abs z * 2 ^ low f) v) (below-is f (of_int f z) w.sign (nat_abs z * 2 ^ low f) v))
  where
    parts :
        (s : Bool) (n u a b : ℕ) → a ≡ cond s 0 (n * u) → b ≡ cond s (n * u) 0
        → a + (cond s 0 n * 0 + cond s n 0 * u) ≡ cond s 0 n * u + cond s n 0 * 0 + b
    parts true n u a b p q = omega arith
    parts false n u a b p q = omega arith

-- A product by such a number, of fewer than 2 ^ (prec + 1 + t) units, moves by at most 2 ^ t
pub mul-near :
    (f : Format) (z : ℤ) (y : Float) (t : ℕ) → nat_abs z < 2 ^ prec f → Exact f y → prec f + suc t ≤ low f + emax f
    → nat_abs (z *ℤ value f y) < 2 ^ (prec f + suc t)
    → Near f (mul f (of_int f z) y) (z *ℤ value f y) (2 ^ t)
mul-near f z y t small q fine h =
    let w = whole f z small in
    near_of f (mul f (of_int f z) y) t (product w.sign (nat_abs z) (above f y) (below f y) (is_mul w.is (value-is f y)))
    (mul-rounds f (of_int f z) y w.sign (nat_abs z) (suc t) w.has q fine (rw (size-product, size-units) at h))
  where
    product :
        (s : Bool) (n a b : ℕ) {x : ℤ} → Is x (cond s 0 n * a + cond s n 0 * b) (cond s 0 n * b + cond s n 0 * a)
        → Is x (n * cond s b a) (n * cond s a b)
    product true n a b h = record { eq = omega arith }
    product false n a b h = record { eq = omega arith }
