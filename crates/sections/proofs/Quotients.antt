-- A line's row, rounded up and rounded down: a quotient is at most a number exactly if the dividend is at most the product.
use Prim.Native.Nat.{ℕ, zero, suc, ◌+◌, ◌-◌, ◌*◌, ◌/◌, ◌≤◌, ◌<◌}
use native.Mathlib.Nat.{div-lt_iff_lt-mul, le-div_iff_mul-le, mul-le-mul, mul-le-mul_left}
use native.Mathlib.Decide.{dec_lt}
use native.Mathlib.Omega.{arith}
use mathlib.Core.Path.{◌≡◌}
use mathlib.Core.Logic.{◌↔◌}
use Rattle.chart.specs.Limits.{side}
use Rattle.sections.specs.Sections.{layers, ceiling, above}

pub ceiling-iff : (a d r : ℕ) → 0 < d → (ceiling a d ≤ r) ↔ (a ≤ d * r)
unfolding ceiling
ceiling-iff a d r p =
    let law = div-lt_iff_lt-mul {k = d} {x = a + (d - 1)} {y = suc r} p in (
      (λ h. let g : (a + (d - 1)) / d < suc r = omega arith in omega (arith, law.0 g)),
      λ h. let g : a + (d - 1) < suc r * d = omega arith in omega (arith, law.1 g),
    )

pub above-iff : (a d r : ℕ) → 0 < d → (r < above a d) ↔ (d * r ≤ a)
unfolding above
above-iff a d r p =
    let law = le-div_iff_mul-le {k = d} {x = r} {y = a} p in
    ((λ h. let g : r ≤ a / d = omega arith in omega (arith, law.0 g)), λ h. let g : r * d ≤ a = omega arith in omega (arith, law.1 g))

-- The products of the loops are small
pub product_small : (a x : ℕ) → a < layers → x ≤ side → a * x ≤ 4096
product_small a x h k =
    let l : a ≤ 15 = omega arith in
    let m : a * x ≤ 3825 = mul-le-mul l k in
    omega arith

-- Whether a quotient is smaller can be tested without dividing
pub ceiling-taken : (low a d : ℕ) → 0 < d → a + d ≤ d * low → ceiling a d < low
ceiling-taken zero a d p h = absurd (omega arith)
ceiling-taken (suc m) a d p h = let l : ceiling a d ≤ m = (ceiling-iff a d m p).1 (omega arith) in omega arith

pub ceiling-left : (low a d : ℕ) → 0 < d → d * low < a + d → low ≤ ceiling a d
ceiling-left zero a d p h = omega arith
ceiling-left (suc m) a d p h =
    elim (dec_lt (ceiling a d) (suc m)) [
      | yes l ↦ let l' : ceiling a d ≤ m = omega arith in absurd (omega (arith, (ceiling-iff a d m p).0 l'))
      | no l ↦ omega arith
    ]

pub above-taken : (high a d : ℕ) → 0 < d → d * high ≤ a → high < above a d
above-taken high a d p h = (above-iff a d high p).1 h

pub above-left : (high a d : ℕ) → 0 < d → a < d * high → above a d ≤ high
above-left high a d p h =
    elim (dec_lt high (above a d)) [ yes l ↦ absurd (omega (arith, (above-iff a d high p).0 l)) | no l ↦ omega arith ]

pub above-small : (a d : ℕ) → 0 < d → a < d * side → above a d ≤ side
above-small a d p h = above-left side a d p h

-- A mean of two rows of the chart is one
mean-small : (e d n x y : ℕ) → n ≡ e + d → 0 < d → x < side → y < side → e * x + d * y < n * side
mean-small e d n x y h p k l =
    let x' : suc x ≤ side = omega arith in
    let y' : suc y ≤ side = omega arith in
    omega (arith, mul-le-mul_left e x', mul-le-mul_left d y')

pub line_small : (i j k x y a : ℕ) → i < j → j < k → x < side → y < side → a ≡ (k - j) * x + (j - i) * y → a < (k - i) * side
line_small i j k x y a h l m n e = rw e (mean-small (k - j) (j - i) (k - i) x y (omega arith) (omega arith) m n)
