-- The order of integers by their positive and negative parts: what minima and maxima are at most, and machine tests against 0.
use Prim.Native.Nat.{zero, suc, ◌-◌}
use native.Mathlib.Omega.{arith}
use mathlib.Core.Path.{◌≡◌, refl, ap, ◌∙◌}
use mathlib.Core.Bool.{Bool, true, false, cond, ◌||◌}
use lib.IntN.{ℤ, pos, negsuc, ◌-ℤ◌}
use lib.Dec.{eqb}
use lib.Signed.{le_z, lt_z}
use Rattle.std.proofs.lemmas.Int.{ints}
use Rattle.std.specs.Prelude.{int_lt, ◌↔◌}
use Rattle.std.specs.Int.{int_min, int_max}
use mir.Syntax.{w32}
use mir.Val.{SFits, of_z}
use borrow.Author.Tests.{ne_eqb, le-leb, lt-ltb}
use Rattle.base.proofs.BelowLaws.{same_test}
use Rattle.base.proofs.Differences.{is-self, is-minus, le_iff}
use Rattle.base.proofs.IntegerOrder.{at-most-iff, not-at-most}
use Rattle.convexity.specs.Inside.{not_negative, minℤ, maxℤ}
use Rattle.directions.specs.Round.{positive, is_nil}

pub not-negative-machine : (a : ℤ) → le_z (pos 0) a ≡ not_negative a
unfolding not_negative
not-negative-machine (pos a) = le-leb 0 a (omega arith)
not-negative-machine (negsuc a) = refl

-- A difference is not negative exactly if the subtrahend is at most the minuend
pub at_most_difference : (a b : ℤ) → le_z b a ≡ not_negative (a -ℤ b)
at_most_difference a b =
    let iff = le_iff (is-self (pos 0)) (is-minus (is-self a) (is-self b)) in
    same_test (le_z b a) (le_z (pos 0) (a -ℤ b)) (at-most-iff b a) (λ e. omega (arith, iff.0 e), λ h. iff.1 (omega arith))
    ∙ not-negative-machine (a -ℤ b)

pub positive-machine : (a : ℤ) → lt_z (pos 0) a ≡ positive a
unfolding positive
positive-machine (pos zero) = refl
positive-machine (pos (suc n)) = lt-ltb 0 (suc n) (omega arith)
positive-machine (negsuc n) = refl

pub nil-machine : (a : ℤ) → SFits w32 a → eqb (of_z w32 a) 0 ≡ is_nil a
unfolding is_nil
nil-machine (pos zero) f = refl
nil-machine (pos (suc n)) f = ne_eqb (suc n) 0 (omega arith)
nil-machine (negsuc n) f = ne_eqb (4294967296 - suc n) 0 (omega (arith, f.sfits))

le_trans : (a b c : ℤ) → le_z a b ≡ true → le_z b c ≡ true → le_z a c ≡ true
le_trans a b c h k = (at-most-iff a c).1 (omega (arith, (at-most-iff a b).0 h, (at-most-iff b c).0 k))

le_total : (a b : ℤ) → le_z a b ≡ false → le_z b a ≡ true
le_total a b h = (at-most-iff b a).1 (omega (arith, not-at-most a b h))

or-first : (s t : Bool) → (t ≡ true → s ≡ true) → s ≡ (s || t)
or-first true t h = refl
or-first false true h = h refl
or-first false false h = refl

or-second : (s t : Bool) → (s ≡ true → t ≡ true) → t ≡ (s || t)
or-second true t h = h refl
or-second false t h = refl

pub min-by : (a b : ℤ) {t : Bool} → le_z a b ≡ t → minℤ a b ≡ cond t a b
unfolding minℤ
min-by a b e = ap (λ (t : Bool). cond t a b) e

pub max-by : (a b : ℤ) {t : Bool} → le_z a b ≡ t → maxℤ a b ≡ cond t b a
unfolding maxℤ
max-by a b e = ap (λ (t : Bool). cond t b a) e

-- The smaller of two numbers is at most c if one of them is
pub min-at-most : (a b c : ℤ) → le_z (minℤ a b) c ≡ (le_z a c || le_z b c)
unfolding minℤ
min-at-most a b c = go (le_z a b) refl
  where
    go : (t : Bool) → le_z a b ≡ t → le_z (cond t a b) c ≡ (le_z a c || le_z b c)
    go true e = or-first _ _ (le_trans a b c e)
    go false e = or-second _ _ (le_trans b a c (le_total a b e))

-- The larger of two numbers is at least c if one of them is
pub max-at-least : (a b c : ℤ) → le_z c (maxℤ a b) ≡ (le_z c a || le_z c b)
unfolding maxℤ
max-at-least a b c = go (le_z a b) refl
  where
    go : (t : Bool) → le_z a b ≡ t → le_z c (cond t b a) ≡ (le_z c a || le_z c b)
    go true e = or-second _ _ (λ h. le_trans c a b h e)
    go false e = or-first _ _ (λ h. le_trans c b a h (le_total a b e))

-- The library's minimum and maximum are the definition's
pub int-min-is : (a b : ℤ) → int_min a b ≡ minℤ a b
unfolding minℤ
int-min-is a b = go (le_z a b) refl
  where
    go : (t : Bool) → le_z a b ≡ t → cond (int_lt b a) b a ≡ cond t a b
    go true e = grind (arith, ints)
    go false e = grind (arith, ints)

pub int-max-is : (a b : ℤ) → int_max a b ≡ maxℤ a b
unfolding maxℤ
int-max-is a b = go (le_z a b) refl
  where
    go : (t : Bool) → le_z a b ≡ t → cond (int_lt b a) a b ≡ cond t b a
    go true e = grind (arith, ints)
    go false e = grind (arith, ints)

pub ruleset extremes = (int-min-is, int-max-is)

-- A test against 0 is the definition's
pub zero-is : (a : ℤ) → (a ≡ pos 0) ↔ (is_nil a ≡ true)
unfolding is_nil
zero-is (pos zero) = (λ e. refl, λ e. refl)
zero-is (pos (suc n)) = (λ e. absurd (omega (arith, ints)), λ e. cc)
zero-is (negsuc n) = (λ e. cc, λ e. cc)

pub cross-is : (a b : ℤ) → lt_z a b ≡ positive (b -ℤ a)
cross-is a b = go (lt_z a b) (lt_z (pos 0) (b -ℤ a)) refl refl ∙ positive-machine (b -ℤ a)
  where
    go : (s t : Bool) → lt_z a b ≡ s → lt_z (pos 0) (b -ℤ a) ≡ t → s ≡ t
    go true true e f = refl
    go true false e f = absurd (omega (arith, ints))
    go false true e f = absurd (omega (arith, ints))
    go false false e f = refl

pub ruleset signs = (positive-machine, zero-is, cross-is)
