-- A rounded fraction lies within half a place of the fraction, since it is the nearest multiple of the place. Everything is in units of
-- the format's smallest positive value and multiplied by the fraction's divisor.
use Prim.Native.Nat.{ℕ, zero, suc, ◌+◌, ◌-◌, ◌*◌, ◌/◌, ◌%◌, ◌^◌, ◌≤◌, ◌<◌, compare, Ordering}
use native.Mathlib.Nat.{le_trans, le_of_eq, lt_of_le_of_lt, mul-le-mul, mul-le-mul_left, mul-pos, div-add-mod', mod-lt, div-div-eq-div-mul}
use native.Mathlib.Nat.{div-lt_iff_lt-mul}
use native.Mathlib.Omega.{arith}
use mathlib.Core.Path.{◌≡◌, sym, subst}
use mathlib.Core.Bool.{Bool, not}
use lib.Dec.{T, is_le, compare_is_eq, eqb, leb→le, nleb→lt, eqb→eq, eqb_refl}
use lib.Arith.{lt_of_le-ne}
use lib.Pow.{pow-add, pow_pos, pow_mono, pow-lt}
use lib.Ieee.{Float, Format, prec, emax, low, size, nearest, round}
use lib.Ieee.Digits.{size-le}
use lib.Ieee.Fits.{kept-lt, nearest-le, round_is}
use lib.Ieee.Exact.{HasValue, units_val}
use lib.Ieee.Nearest.{closest}
use lib.Ieee.Order.{drop, kept}
use lib.Ieee.Scale.{grid}

-- ---- the nearest whole number to a fraction a / b

-- What `compare` decides
abbrev Cmp : Ordering → ℕ → ℕ → Type 0
Cmp Ordering.lt a b = a < b
Cmp Ordering.eq a b = a ≡ b
Cmp Ordering.gt a b = b < a

cmp : (a b : ℕ) → Cmp (compare a b) a b
cmp a b = go (compare a b) (leb→le a b) (nleb→lt a b) (eqb→eq a b) (λ (e : a ≡ b). subst (λ (x : ℕ). T (eqb a x)) e (eqb_refl a))
  where
    go : (o : Ordering) → (T (is_le o) → a ≤ b) → (T (not (is_le o)) → b < a) → (T (compare_is_eq o) → a ≡ b) → (a ≡ b → T (compare_is_eq o)) → Cmp o a b
    go Ordering.lt h k e n = lt_of_le-ne (h tt) n
    go Ordering.eq h k e n = e tt
    go Ordering.gt h k e n = k tt

-- The number q is at most half of b from a, counted in b-ths
abbrev Half : ℕ → ℕ → ℕ → Type 0
Half q a b = (q * b * 2 ≤ a * 2 + b) × (a * 2 ≤ q * b * 2 + b)

nearest-half : (q r a b : ℕ) (o : Ordering) → Cmp o (r * 2) b → q * b + r ≡ a → r < b → Half (nearest q o) a b
nearest-half q r a b Ordering.lt c e l = omega arith
nearest-half q r a b Ordering.gt c e l = omega arith
nearest-half q r a b Ordering.eq c e l = go (q % 2) (omega arith)
  where
    go : (p : ℕ) → p < 2 → Half (q + p) a b
    go zero h = omega arith
    go (suc zero) h = omega arith
    go (suc (suc p)) h = absurd (omega arith)

pub closest-half : (a b : ℕ) → 0 < b → Half (closest a b) a b
closest-half a b h = nearest-half (a / b) (a % b) a b (compare (a % b * 2) b) (cmp (a % b * 2) b) (div-add-mod' a b) (mod-lt a h)

-- ---- `round`

-- num / den rounded, where it is below 2 ^ (prec + t) units: the result is finite and is `grid` units, at most half of 2 ^ t away.
pub record Rounded (f : Format) (s : Bool) (num den t : ℕ) : Type 0 where
  pub value : HasValue (round f s num den) s (grid f num den) (2 ^ low f)
  pub over : grid f num den * den * 2 ≤ num * 2 ^ low f * 2 + den * 2 ^ t
  pub under : num * 2 ^ low f * 2 ≤ grid f num den * den * 2 + den * 2 ^ t

dropped : (z p t : ℕ) → z ≤ p + t → z - p ≤ t
dropped z p t h = omega arith

kept-le : (p n den : ℕ) → kept p n den ≤ 2 ^ p
kept-le p n den =
    let k = drop p n den in
    let u = den * 2 ^ k in
    le_trans (nearest-le (n / u) (compare (n % u * 2) u))
    (subst (λ (x : ℕ). x < 2 ^ p) (div-div-eq-div-mul n den (2 ^ k)) (kept-lt p (n / den)))

-- q places of 2 ^ k, in units
spread : (q den n k t : ℕ) → Half q n (den * 2 ^ k) → 2 ^ k ≤ 2 ^ t
    → (q * 2 ^ k * den * 2 ≤ n * 2 + den * 2 ^ t) × (n * 2 ≤ q * 2 ^ k * den * 2 + den * 2 ^ t)
spread q den n k t h l =
    let w : den * 2 ^ k ≤ den * 2 ^ t = mul-le-mul_left den l in
    omega arith

pub round-near : (f : Format) (s : Bool) (num den t : ℕ) → 0 < den → prec f + t ≤ low f + emax f → num * 2 ^ low f < 2 ^ (prec f + t) * den
    → Rounded f s num den t
round-near f s num den t D fits h =
    let p = prec f in
    let n = num * 2 ^ low f in
    let k = drop p n den in
    let k-le : k ≤ t = dropped (size (n / den)) p t (size-le (n / den) (p + t) ((div-lt_iff_lt-mul D).1 h)) in
    let top : grid f num den ≤ 2 ^ (p + t) = le_trans (mul-le-mul (kept-le p n den) (pow_mono k-le)) (le_of_eq (sym (pow-add 2 p t))) in
    let fine : grid f num den < 2 ^ (low f + suc (emax f)) = lt_of_le_of_lt top (pow-lt (omega arith)) in
    let near = spread (kept p n den) den n k t (closest-half n (den * 2 ^ k) (mul-pos D (pow_pos k))) (pow_mono k-le) in
    record {
      value =
          subst (λ (x : Float). HasValue x s (grid f num den) (2 ^ low f)) (sym (round_is f s num den))
          (units_val f s (kept p n den) k fine);
      over = near.0;
      under = near.1;
    }
