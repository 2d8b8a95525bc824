-- Integers as differences of naturals: sums, products and order of integers become statements about naturals that are linear in products.
use Prim.Native.Nat.{ℕ, zero, suc, ◌+◌, ◌-◌, ◌*◌, ◌≤◌}
use native.Mathlib.Omega.{arith}
use mathlib.Core.Path.{◌≡◌, refl, ap}
use mathlib.Core.Logic.{◌↔◌}
use mathlib.Core.Bool.{Bool, true, false, cond}
use lib.Dec.{ltb}
use lib.IntN.{ℤ, pos, negsuc, neg_ℤ, sub_ℕ, ◌+ℤ◌, ◌-ℤ◌, ◌*ℤ◌}
use lib.Signed.{le_z}
use borrow.Author.Tests.{ltb-true, ltb-false}
use Rattle.base.proofs.IntegerOrder.{up, down, at-most-iff}

-- z is a - b
pub record Is (z : ℤ) (a b : ℕ) : Type 0 where
  pub eq : up z + b ≡ a + down z

pub is-self : (z : ℤ) → Is z (up z) (down z)
is-self z = record { eq = refl }

pub is_eq : {x y : ℤ} {a b c d : ℕ} → Is x a b → Is y c d → x ≡ y → a + d ≡ c + b
is_eq h k e = omega (arith, ap up e, ap down e)

pub is-unique : {x y : ℤ} {a b c d : ℕ} → Is x a b → Is y c d → a + d ≡ c + b → x ≡ y
is-unique {x = pos m} {y = pos n} h k e = ap pos (omega arith)
is-unique {x = pos m} {y = negsuc n} h k e = absurd (omega arith)
is-unique {x = negsuc m} {y = pos n} h k e = absurd (omega arith)
is-unique {x = negsuc m} {y = negsuc n} h k e = ap negsuc (omega arith)

is-sub : (a b : ℕ) → Is (sub_ℕ a b) a b
is-sub a b = go (ltb a b) refl
  where
    go : (t : Bool) → ltb a b ≡ t → Is (cond t (negsuc (b - suc a)) (pos (a - b))) a b
    go true e = record { eq = omega (arith, ltb-true a b e) }
    go false e = record { eq = omega (arith, ltb-false a b e) }

pub is-neg : {x : ℤ} {a b : ℕ} → Is x a b → Is (neg_ℤ x) b a
is-neg {x = pos zero} h = record { eq = omega arith }
is-neg {x = pos (suc m)} h = record { eq = omega arith }
is-neg {x = negsuc m} h = record { eq = omega arith }

pub is-add : {x y : ℤ} {a b c d : ℕ} → Is x a b → Is y c d → Is (x +ℤ y) (a + c) (b + d)
is-add {x = pos m} {y = pos n} h k = record { eq = omega arith }
is-add {x = pos m} {y = negsuc n} h k = record { eq = omega (arith, (is-sub m (suc n)).eq) }
is-add {x = negsuc m} {y = pos n} h k = record { eq = omega (arith, (is-sub n (suc m)).eq) }
is-add {x = negsuc m} {y = negsuc n} h k = record { eq = omega arith }

pub is-minus : {x y : ℤ} {a b c d : ℕ} → Is x a b → Is y c d → Is (x -ℤ y) (a + d) (b + c)
is-minus h k = is-add h (is-neg k)

-- A product, from the parts of its factors
is-mul-self : (x y : ℤ) → Is (x *ℤ y) (up x * up y + down x * down y) (up x * down y + down x * up y)
is-mul-self (pos m) (pos n) = record { eq = omega arith }
is-mul-self (pos m) (negsuc n) = record { eq = omega (arith, (is-neg (is-self (pos (m * suc n)))).eq) }
is-mul-self (negsuc m) (pos n) = record { eq = omega (arith, (is-neg (is-self (pos (suc m * n)))).eq) }
is-mul-self (negsuc m) (negsuc n) = record { eq = omega arith }

mul-differences : (u d u' d' a b c e : ℕ) → u + b ≡ a + d → u' + e ≡ c + d'
    → u * u' + d * d' + (a * e + b * c) ≡ a * c + b * e + (u * d' + d * u')
mul-differences u d u' d' a b c e h k =
    omega (arith, ap (λ (n : ℕ). n * u') h, ap (λ (n : ℕ). n * d') h, ap (λ (n : ℕ). a * n) k, ap (λ (n : ℕ). b * n) k)

pub is_mul : {x y : ℤ} {a b c d : ℕ} → Is x a b → Is y c d → Is (x *ℤ y) (a * c + b * d) (a * d + b * c)
is_mul {x} {y} {a} {b} {c} {d} h k =
    let e = mul-differences (up x) (down x) (up y) (down y) a b c d h.eq k.eq in
    record { eq = omega (arith, (is-mul-self x y).eq) }

pub le_iff : {x y : ℤ} {a b c d : ℕ} → Is x a b → Is y c d → (le_z x y ≡ true) ↔ (a + d ≤ c + b)
le_iff {x} {y} h k = (
  λ e. omega (arith, (at-most-iff x y).0 e, h.eq, k.eq),
  λ l. (at-most-iff x y).1 (omega (arith, h.eq, k.eq)),
)
