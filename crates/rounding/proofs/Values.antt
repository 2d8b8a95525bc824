-- A finite float of a format is a whole number of units, since the format's smallest positive value divides it; and a fraction equal to
-- it determines its sign and units.
use Prim.Native.Nat.{ℕ, zero, suc, ◌+◌, ◌-◌, ◌*◌, ◌%◌, ◌^◌, ◌≤◌}
use native.Mathlib.Nat.{not-le_of_lt, mul-one, mul-div_cancel}
use native.Mathlib.Omega.{arith}
use native.Mathlib.Decide.{dec_le}
use mathlib.Core.Path.{◌≡◌, refl, sym, ap, ◌∙◌}
use mathlib.Core.Bool.{Bool, true, false, cond, ◌&&◌}
use lib.IntN.{ℤ, pos, negsuc, neg_ℤ}
use lib.Dec.{T, ltb, leb, eqb, leb→le}
use lib.Pow.{pow-add, pow-lt}
use lib.Ieee.{Float, nan, inf, fin, Format, prec, emax, low, up, down, fits}
use lib.Ieee.Fits.{down_pos, and_l, and_r}
use lib.Ieee.Exact.{HasValue}
use lib.Ieee.Scale.{finite}
use Rattle.base.proofs.Differences.{Is, is-self, is-neg}
use Rattle.rounding.specs.Units.{negative, units, value}

-- The units above 0 and the units below 0: the value is their difference, and one of the two is 0
unfoldable pub above : Format → Float → ℕ
above f x = cond (negative x) 0 (units f x)

unfoldable pub below : Format → Float → ℕ
below f x = cond (negative x) (units f x) 0

pub value-is : (f : Format) (x : Float) → Is (value f x) (above f x) (below f x)
unfolding value above below
value-is f x = go (negative x) (units f x)
  where
    go : (s : Bool) (w : ℕ) → Is (cond s (neg_ℤ (pos w)) (pos w)) (cond s 0 w) (cond s w 0)
    go true w = is-neg (is-self (pos w))
    go false w = is-self (pos w)

-- x is finite and exactly its units: the division has no remainder
pub record Exact (f : Format) (x : Float) : Type 0 where
  pub is : HasValue x (negative x) (units f x) (2 ^ low f)

pub exact-finite : (f : Format) (x : Float) → Exact f x → T (finite x)
exact-finite f nan h = absurd h.is
exact-finite f (inf s) h = absurd h.is
exact-finite f (fin s m e) h = tt

-- ---- the sign and the units of a value that is given as a fraction of 2 ^ low

pub sign-is : (f : Format) (x : Float) (s : Bool) (w : ℕ) → HasValue x s w (2 ^ low f) → negative x ≡ s
unfolding negative
sign-is f nan s w h = absurd h
sign-is f (inf t) s w h = absurd h
sign-is f (fin t m e) s w h = h.0

pub units-is : (f : Format) (x : Float) (s : Bool) (w : ℕ) → HasValue x s w (2 ^ low f) → units f x ≡ w
unfolding units
units-is f nan s w h = absurd h
units-is f (inf t) s w h = absurd h
units-is f (fin t m e) s w h = rw h.1 (mul-div_cancel w (down_pos e))

pub exact-of : (f : Format) (x : Float) (s : Bool) (w : ℕ) → HasValue x s w (2 ^ low f) → Exact f x
exact-of f x s w h = record { is = rw (sign-is f x s w h, units-is f x s w h) h }

pub above-is : (f : Format) (x : Float) (s : Bool) (w : ℕ) → HasValue x s w (2 ^ low f) → above f x ≡ cond s 0 w
unfolding above
above-is f x s w h = rw (sign-is f x s w h, units-is f x s w h)

pub below-is : (f : Format) (x : Float) (s : Bool) (w : ℕ) → HasValue x s w (2 ^ low f) → below f x ≡ cond s w 0
unfolding below
below-is f x s w h = rw (sign-is f x s w h, units-is f x s w h)

-- The whole number n is n * 2 ^ low units
pub whole-value : (f : Format) (x : Float) (s : Bool) (n : ℕ) → HasValue x s n 1 → HasValue x s (n * 2 ^ low f) (2 ^ low f)
whole-value f nan s n h = absurd h
whole-value f (inf t) s n h = absurd h
whole-value f (fin t m e) s n h = (h.0, scale (m * up e) n (down e) (2 ^ low f) h.1)
  where
    scale : (a n d u : ℕ) → a * 1 ≡ n * d → a * u ≡ n * u * d
    scale a n d u e = omega (arith, ap (λ (z : ℕ). z * u) e)

-- ---- a value of the format

pow-le : (a b : ℕ) → 2 ^ a ≤ 2 ^ b → a ≤ b
pow-le a b h = elim (dec_le a b) [ yes l ↦ l | no l ↦ absurd (not-le_of_lt (pow-lt {i = b} {j = a} (omega arith)) h) ]

down-divides : (e : ℤ) (l : ℕ) → down e ≤ 2 ^ l → (k : ℕ) × (2 ^ l ≡ k * down e)
down-divides (pos j) l h = (2 ^ l, sym (mul-one (2 ^ l)))
down-divides (negsuc j) l h = (2 ^ (l - suc j), ap (λ (z : ℕ). 2 ^ z) (back l (suc j) (pow-le (suc j) l h)) ∙ pow-add 2 (l - suc j) (suc j))
  where
    back : (a b : ℕ) → b ≤ a → a ≡ a - b + b
    back a b g = omega arith

pub fits-exact : (f : Format) (x : Float) → T (finite x) → T (fits f x) → Exact f x
unfolding fits
fits-exact f nan n h = absurd n
fits-exact f (inf s) n h = absurd n
fits-exact f (fin s zero e) n h = exact-of f (fin s 0 e) s 0 (refl, nothing (up e) (2 ^ low f) (down e))
  where
    nothing : (a u d : ℕ) → 0 * a * u ≡ 0 * d
    nothing a u d = omega arith
fits-exact f (fin s (suc m) e) n h =
    let a = eqb (suc m % 2) 1 && ltb (suc m) (2 ^ prec f) in
    let b = leb (down e) (2 ^ low f) in
    let c = ltb (suc m * up e) (2 ^ suc (emax f) * down e) in
    let d = down-divides e (low f) (leb→le (down e) (2 ^ low f) (and_r a b (and_l (a && b) c h))) in
    exact-of f (fin s (suc m) e) s (suc m * up e * d.0) (refl, part (suc m * up e) (2 ^ low f) d.0 (down e) d.1)
  where
    part : (a u k d : ℕ) → u ≡ k * d → a * u ≡ a * k * d
    part a u k d e = omega (arith, ap (λ (z : ℕ). a * z) e)

-- ---- a fraction a / d of v units, over a common divisor d * g

pub over-left : (a u v d g : ℕ) → a * u ≡ v * d → a * g * u ≡ v * (d * g)
over-left a u v d g e = omega (arith, ap (λ (z : ℕ). z * g) e)

pub over-right : (a u v d g : ℕ) → a * u ≡ v * d → a * g * u ≡ v * (g * d)
over-right a u v d g e = omega (arith, ap (λ (z : ℕ). z * g) e)
