-- Sizes of integers, by cases of their signs: a sum, difference or product is no larger than its parts allow, and a number that is small
-- enough fits a machine's width.
use Prim.Native.Nat.{ℕ, zero, suc, ◌+◌, ◌-◌, ◌*◌, ◌^◌, ◌≤◌, ◌<◌}
use native.Mathlib.Nat.{mul-le-mul}
use native.Mathlib.Omega.{arith}
use mathlib.Core.Path.{◌≡◌, refl, ap, ◌∙◌}
use mathlib.Core.Bool.{Bool, true, false, cond}
use lib.Dec.{ltb}
use lib.IntN.{ℤ, pos, negsuc, neg_ℤ, nat_abs, sub_ℕ, ◌+ℤ◌, ◌-ℤ◌, ◌*ℤ◌}
use lib.Signed.{mag, nat_abs-le}
use borrow.Author.Tests.{ltb-true}
use mir.Syntax.{Width, w16, w64}
use mir.Val.{SFits, hbits, to_z, of_z}
use mir.ValLaws.{to_z-of_z}
use Rattle.base.proofs.Differences.{Is, is-self, is-unique, is-add, is-minus, is_mul}

size-sub : (a b : ℕ) → nat_abs (sub_ℕ a b) ≤ a + b
size-sub a b = go (ltb a b) refl
  where
    go : (t : Bool) → ltb a b ≡ t → nat_abs (cond t (negsuc (b - suc a)) (pos (a - b))) ≤ a + b
    go true e = omega (arith, ltb-true a b e)
    go false e = omega arith

pub size-neg : (a : ℤ) → nat_abs (neg_ℤ a) ≡ nat_abs a
size-neg (pos zero) = refl
size-neg (pos (suc a)) = refl
size-neg (negsuc a) = refl

pub size-sum : (a b : ℤ) → nat_abs (a +ℤ b) ≤ nat_abs a + nat_abs b
size-sum (pos a) (pos b) = omega arith
size-sum (pos a) (negsuc b) = size-sub a (suc b)
size-sum (negsuc a) (pos b) = omega (arith, size-sub b (suc a))
size-sum (negsuc a) (negsuc b) = omega arith

pub size-difference : (a b : ℤ) → nat_abs (a -ℤ b) ≤ nat_abs a + nat_abs b
size-difference a b = omega (arith, size-sum a (neg_ℤ b), size-neg b)

pub size-product : (a b : ℤ) → nat_abs (a *ℤ b) ≡ nat_abs a * nat_abs b
size-product (pos a) (pos b) = refl
size-product (pos a) (negsuc b) = size-neg (pos (a * suc b))
size-product (negsuc a) (pos b) = size-neg (pos (suc a * b))
size-product (negsuc a) (negsuc b) = refl

pub size-product-le : (a b : ℤ) {m n : ℕ} → nat_abs a ≤ m → nat_abs b ≤ n → nat_abs (a *ℤ b) ≤ m * n
size-product-le a b h k = rw (size-product a b) (mul-le-mul h k)

-- The size of a - b is the distance between a and b
pub size-parts : {z : ℤ} {a b : ℕ} → Is z a b → (a ≤ b + nat_abs z) × (b ≤ a + nat_abs z)
size-parts {z = pos n} h = omega arith
size-parts {z = negsuc n} h = omega arith

pub size-at-most : {z : ℤ} {a b : ℕ} (k : ℕ) → Is z a b → a ≤ b + k → b ≤ a + k → nat_abs z ≤ k
size-at-most {z = pos n} k h l m = omega arith
size-at-most {z = negsuc n} k h l m = omega arith

-- The triangle inequality
pub size-triangle : (a b c : ℤ) → nat_abs (a -ℤ c) ≤ nat_abs (a -ℤ b) + nat_abs (b -ℤ c)
size-triangle a b c =
    let e : a -ℤ c ≡ (a -ℤ b) +ℤ (b -ℤ c) =
    is-unique (is-minus (is-self a) (is-self c)) (is-add (is-minus (is-self a) (is-self b)) (is-minus (is-self b) (is-self c)))
    (omega arith) in
    rw e (size-sum (a -ℤ b) (b -ℤ c))

pub size_back : (a b : ℤ) → nat_abs a ≤ nat_abs (a -ℤ b) + nat_abs b
size_back a b =
    let e : a ≡ (a -ℤ b) +ℤ b = is-unique (is-self a) (is-add (is-minus (is-self a) (is-self b)) (is-self b)) (omega arith) in
    omega (arith, size-sum (a -ℤ b) b, ap nat_abs e)

-- Two differences, and two products with a common factor, are no further apart than their parts allow
pub size-differences : (a b c d : ℤ) → nat_abs ((a -ℤ b) -ℤ (c -ℤ d)) ≤ nat_abs (a -ℤ c) + nat_abs (b -ℤ d)
size-differences a b c d =
    let e : (a -ℤ b) -ℤ (c -ℤ d) ≡ (a -ℤ c) -ℤ (b -ℤ d) =
    is-unique (is-minus (is-minus (is-self a) (is-self b)) (is-minus (is-self c) (is-self d)))
    (is-minus (is-minus (is-self a) (is-self c)) (is-minus (is-self b) (is-self d))) (omega arith) in
    rw e (size-difference (a -ℤ c) (b -ℤ d))

pub size-products : (k a b : ℤ) → nat_abs (k *ℤ a -ℤ k *ℤ b) ≡ nat_abs k * nat_abs (a -ℤ b)
size-products k a b =
    ap nat_abs
    (is-unique (is-minus (is_mul (is-self k) (is-self a)) (is_mul (is-self k) (is-self b)))
    (is_mul (is-self k) (is-minus (is-self a) (is-self b))) (omega arith))
    ∙ size-product k (a -ℤ b)

mag-size : (a : ℤ) → mag a ≤ nat_abs a
mag-size (pos a) = omega arith
mag-size (negsuc a) = omega arith

pub fits-size : (w : Width) (a : ℤ) → nat_abs a < 2 ^ hbits w → SFits w a
fits-size w a h = record { sfits = omega (arith, mag-size a) }

-- A number that fits is what the machine reads from its bits
pub read_back : (a : ℤ) → mag a < 2 ^ 63 → to_z w64 (of_z w64 a) ≡ a
read_back a h = to_z-of_z w64 a (record { sfits = h })

-- A number of 16 bits is at most 2^15 in size
pub size-16 : (a : ℤ) → SFits w16 a → nat_abs a ≤ 32768
size-16 a f = nat_abs-le a f.sfits
