-- A number that is not refused is finite, so it has a value in units of 2 ^ -149.
-- Floats compare as their values do, and a cell's number is exactly a float.
use Prim.Native.Nat.{ℕ, ◌+◌, ◌*◌, ◌^◌, ◌≤◌, ◌<◌}
use native.Mathlib.Nat.{le_of_suc-le-suc, le_trans, lt_of_le_of_lt}
use native.Mathlib.Decide.{ℕ_discrete}
use native.Mathlib.Omega.{arith}
use mathlib.Core.Path.{◌≡◌, refl, sym, ◌∙◌}
use mathlib.Core.Bool.{Bool, true, false, not, ◌&&◌, ◌||◌, and-eq-true_iff, and-false, true≢false}
use lib.IntN.{ℤ, pos, negsuc, nat_abs}
use lib.Signed.{le_z}
use lib.Dec.{T, eqb, lit≤, le→leb, lt→ltb}
use lib.Ieee.{Float, nan, inf, fin, binary32, prec, fits, in_float, up, down, le, lt, eq, of_int}
use lib.Ieee.Fits.{down_pos}
use borrow.Author.Tests.{leb-true, not-false, lt-ltb, ne_eqb}
use Rattle.rounding.specs.Units.{negative, units, value, in_units}
use Rattle.rounding.proofs.Values.{Exact, fits-exact}
use Rattle.rounding.proofs.Near.{whole-exact, whole_is}
use Rattle.rounding.proofs.Order.{le-value}
use Rattle.directions.specs.CornerHull.{chart_number}
use Rattle.directions.proofs.OnChart.{number}
use Rattle.calls.specs.declared.Reading.{Reading}
use Rattle.readings.specs.Located.{bad_number, bad_reading}

-- ---- numbers that are not refused

abbrev zero : Float
zero = fin false 0 (pos 0)

abbrev last : Float
last = fin false 127 (pos 1)

zero-exact : Exact binary32 zero
unfolding negative units
zero-exact = record { is = (refl, refl) }

last-exact : Exact binary32 last
unfolding negative units
last-exact = record { is = (refl, refl) }

zero_is : value binary32 zero ≡ pos 0
unfolding value negative units
zero_is = refl

last-is : value binary32 last ≡ in_units binary32 (pos 254)
unfolding value negative units in_units
last-is = refl

pub good-exact : (x : Float) → T (fits binary32 x) → bad_number x ≡ false → Exact binary32 x
unfolding bad_number
good-exact nan held g = absurd (true≢false g)
good-exact (inf s) held g = absurd (true≢false g)
good-exact (fin s m e) held g = fits-exact binary32 (fin s m e) tt held

pub bad-is : (x : Float) → T (fits binary32 x) → not (le zero x && le x last) ≡ bad_number x
unfolding bad_number le lt eq
bad-is nan held = refl
bad-is (inf true) held = refl
bad-is (inf false) held = refl
bad-is (fin s m e) held =
    let x = fin s m e in
    let h = fits-exact binary32 x tt held in
    rw (le-value binary32 zero x zero-exact h, le-value binary32 x last h last-exact, zero_is, last-is) refl

-- Neither number of the reading is refused
pub good-both : (r : Reading) → bad_reading r ≡ false → (bad_number r.angle ≡ false) × (bad_number r.load ≡ false)
unfolding bad_reading
good-both r g = go (bad_number r.angle) (bad_number r.load) g
  where
    go : (a b : Bool) → (a || b) ≡ false → (a ≡ false) × (b ≡ false)
    go true b e = absurd (true≢false e)
    go false b e = (refl, e)

-- From 0 to 254
pub record Good (x : Float) : Type 0 where
  pub exact : Exact binary32 x
  pub n : ℕ
  pub is : value binary32 x ≡ pos n
  pub high : n ≤ 254 * 2 ^ 149

pub good-number : (x : Float) → T (fits binary32 x) → bad_number x ≡ false → Good x
unfolding bad_number in_units
good-number nan held g = absurd (true≢false g)
good-number (inf s) held g = absurd (true≢false g)
good-number (fin s m e) held g = go (value binary32 (fin s m e)) refl g
  where
    go : (v : ℤ) → value binary32 (fin s m e) ≡ v → not (le_z (pos 0) v && le_z v (pos (254 * 2 ^ 149))) ≡ false → Good (fin s m e)
    go (pos n) q g =
        let both = (and-eq-true_iff (le_z (pos 0) (pos n)) (le_z (pos n) (pos (254 * 2 ^ 149)))).0 (not-false _ g) in
        record { exact = fits-exact binary32 (fin s m e) tt held; n = n; is = q; high = leb-true n (254 * 2 ^ 149) both.1 }
    go (negsuc n) q g = absurd (true≢false g)

-- ---- cells as floats

-- A column or a row of the chart
pub record Cell (z : ℤ) : Type 0 where
  pub n : ℕ
  pub is : z ≡ pos n
  pub small : n ≤ 254

pub cell-of : (z : ℤ) → chart_number z ≡ true → Cell z
cell-of z h = let p = number z h in record { n = p.0; is = p.1; small = le_of_suc-le-suc p.2 }

pub cell-size : {z : ℤ} → Cell z → nat_abs z ≤ 254
cell-size c = rw c.is c.small

-- The machine makes it a float
pub cell-float : (z : ℤ) → chart_number z ≡ true → T (in_float binary32 z)
unfolding in_float
cell-float z h = let c = cell-of z h in rw c.is (le→leb c.n (2 ^ prec binary32) (le_trans c.small (lit≤ tt)))

-- It has no more digits than the format keeps
pub few-digits : (z : ℤ) → nat_abs z ≤ 254 → nat_abs z < 2 ^ prec binary32
few-digits z h = lt_of_le_of_lt h (lit≤ tt)

module _ (z : ℤ) (small : nat_abs z ≤ 254) where
  pub small-exact : Exact binary32 (of_int binary32 z)
  small-exact = whole-exact binary32 z (few-digits z small)

  pub small_is : value binary32 (of_int binary32 z) ≡ in_units binary32 z
  small_is = whole_is binary32 z (few-digits z small)

-- ---- numbers that 100 edges can lead to

module _ (z : ℤ) (reached : nat_abs z ≤ 2 ^ 23) where
  digits : nat_abs z < 2 ^ prec binary32
  digits = lt_of_le_of_lt reached (lit≤ tt)

  -- The machine makes such a number a float
  pub reached-float : T (in_float binary32 z)
  unfolding in_float
  reached-float = go z digits
    where
      go : (z : ℤ) → nat_abs z < 2 ^ prec binary32 → T (in_float binary32 z)
      go (pos n) h = le→leb n (2 ^ prec binary32) (omega arith)
      go (negsuc n) h = lt→ltb n (2 ^ prec binary32) (omega arith)

  whole : value binary32 (of_int binary32 z) ≡ in_units binary32 z
  whole = whole_is binary32 z digits

  -- It compares as its value does
  pub reached-le : (x : Float) → Exact binary32 x → le (of_int binary32 z) x ≡ le_z (in_units binary32 z) (value binary32 x)
  reached-le x h = rw whole at (le-value binary32 (of_int binary32 z) x (whole-exact binary32 z digits) h)

  pub le-reached : (x : Float) → Exact binary32 x → le x (of_int binary32 z) ≡ le_z (value binary32 x) (in_units binary32 z)
  le-reached x h = rw whole at (le-value binary32 x (of_int binary32 z) h (whole-exact binary32 z digits))

-- ---- 1/64

unit : (e : ℤ) → 0 < 1 * up (negsuc 5) * down e
unit e = omega (arith, down_pos e)

-- A number that is not below 1/64 is not at most -1/64
pub not-near : (v : Float) → lt v (fin false 1 (negsuc 5)) ≡ false → le v (fin true 1 (negsuc 5)) ≡ false
unfolding lt eq le
not-near nan h = refl
not-near (inf true) h = absurd (true≢false h)
not-near (inf false) h = refl
not-near (fin true m e) h =
    absurd (true≢false (sym (lt-ltb 0 (m * up e * down (negsuc 5) + 1 * up (negsuc 5) * down e) (omega (arith, unit e))) ∙ h))
not-near (fin false m e) h = go (m * up e * down (negsuc 5)) (1 * up (negsuc 5) * down e) (unit e)
  where
    go : (a b : ℕ) → 0 < b → (eqb a b && eqb a 0) ≡ false
    go a b l =
        elim (ℕ_discrete a 0) [
          | yes q ↦ rw (ne_eqb a b (λ e. omega arith)) refl
          | no q ↦ rw (ne_eqb a 0 q) (and-false (eqb a b))
        ]
