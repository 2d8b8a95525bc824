-- Two finite floats compare as their values do: both are fractions with the same divisor, and so are the units.
use Prim.Native.Nat.{ℕ, ◌+◌, ◌*◌, ◌^◌, ◌≤◌, ◌<◌}
use native.Mathlib.Nat.{eq-or-lt_of_le, mul-pos, mul-le-mul_right, le_of_mul-le-mul_right}
use native.Mathlib.Omega.{arith}
use mathlib.Core.Path.{◌≡◌, refl, sym, ap, ◌∙◌}
use mathlib.Core.Logic.Iff
use mathlib.Core.Logic.{◌⊎◌, inl, inr, ◌↔◌}
use mathlib.Core.Bool.{Bool, true, false, not, cond, ◌||◌, true≢false}
use lib.IntN.{ℤ}
use lib.Dec.{T, eqb, ltb→lt, lt→ltb, eqb→eq}
use lib.Pow.{pow_pos}
use lib.Signed.{le_z}
use lib.Ieee.{Float, nan, inf, fin, Format, low, up, down, le, lt}
use lib.Ieee as Ieee
use lib.Ieee.Fits.{down_pos, and_i, and_l, and_r, eq→eqb}
use Rattle.base.proofs.BelowLaws.{same_test}
use Rattle.base.proofs.Differences.{le_iff as at_most}
use Rattle.rounding.specs.Units.{negative, units, value}
use Rattle.rounding.proofs.Values.{above, below, Exact, value-is, over-left, over-right}

-- ---- the tests decide the order

or_split : (a b : Bool) → T (a || b) → T a ⊎ T b
or_split true b t = inl tt
or_split false b t = inr t

or_left : (a b : Bool) → T a → T (a || b)
or_left true b t = tt
or_left false b t = absurd t

or_right : (a b : Bool) → T b → T (a || b)
or_right true b t = tt
or_right false b t = t

eqb_of : (a b : ℕ) → a ≡ b → T (eqb a b)
eqb_of a b e = eq→eqb e

-- ±a < ±b, where s and t tell whether a and b are negative
below-iff : (s t : Bool) (a b : ℕ) → T (Ieee.below s a t b) ↔ (cond s 0 a + cond t b 0 < cond t 0 b + cond s a 0)
below-iff false false a b = ((λ h. omega (arith, ltb→lt a b h)), λ h. lt→ltb a b (omega arith))
below-iff false true a b = ((λ h. absurd h), λ h. absurd (omega arith))
below-iff true false a b = ((λ h. omega (arith, ltb→lt 0 (a + b) h)), λ h. lt→ltb 0 (a + b) (omega arith))
below-iff true true a b = ((λ h. omega (arith, ltb→lt b a h)), λ h. lt→ltb b a (omega arith))

level-iff : (s t : Bool) (a b : ℕ) → T (Ieee.level s a t b) ↔ (cond s 0 a + cond t b 0 ≡ cond t 0 b + cond s a 0)
level-iff false false a b =
    ((λ h. omega (arith, eqb→eq a b (and_l (eqb a b) true h))), λ h. and_i (eqb a b) true (eqb_of a b (omega arith)) tt)
level-iff false true a b = (
  (λ h. omega (arith, eqb→eq a b (and_l (eqb a b) (eqb a 0) h), eqb→eq a 0 (and_r (eqb a b) (eqb a 0) h))),
  λ h. and_i (eqb a b) (eqb a 0) (eqb_of a b (omega arith)) (eqb_of a 0 (omega arith)),
)
level-iff true false a b = (
  (λ h. omega (arith, eqb→eq a b (and_l (eqb a b) (eqb a 0) h), eqb→eq a 0 (and_r (eqb a b) (eqb a 0) h))),
  λ h. and_i (eqb a b) (eqb a 0) (eqb_of a b (omega arith)) (eqb_of a 0 (omega arith)),
)
level-iff true true a b =
    ((λ h. omega (arith, eqb→eq a b (and_l (eqb a b) true h))), λ h. and_i (eqb a b) true (eqb_of a b (omega arith)) tt)

either-iff : (p q : Bool) (x y : ℕ) → T p ↔ (x < y) → T q ↔ (x ≡ y) → T (p || q) ↔ (x ≤ y)
either-iff p q x y i j = (
  (λ t. elim (or_split p q t) [ inl u ↦ omega (arith, i.0 u) | inr u ↦ omega (arith, j.0 u) ]),
  λ l. elim (eq-or-lt_of_le l) [ inl e ↦ or_right p q (j.1 e) | inr k ↦ or_left p q (i.1 k) ],
)

-- ---- from fractions to units: a * u = c * g and b * u = d * g

le-scaled : (a b c d u g : ℕ) → 0 < u → 0 < g → a * u ≡ c * g → b * u ≡ d * g → (a ≤ b) ↔ (c ≤ d)
le-scaled a b c d u g U G p q = (
  (λ h. le_of_mul-le-mul_right {k = g} (omega (arith, mul-le-mul_right u h)) G),
  λ h. le_of_mul-le-mul_right {k = u} (omega (arith, mul-le-mul_right g h)) U,
)

parts : (s t : Bool) (a b v w u g : ℕ) → a * u ≡ v * g → b * u ≡ w * g → (cond s 0 a + cond t b 0) * u ≡ (cond s 0 v + cond t w 0) * g
parts true true a b v w u g p q = omega arith
parts true false a b v w u g p q = omega arith
parts false true a b v w u g p q = omega arith
parts false false a b v w u g p q = omega arith

module _ (f : Format) (s : Bool) (m : ℕ) (e : ℤ) (t : Bool) (n : ℕ) (d : ℤ) (p : Exact f (fin s m e)) (q : Exact f (fin t n d)) where
  left : m * up e * down d * 2 ^ low f ≡ units f (fin s m e) * (down e * down d)
  left = over-left (m * up e) (2 ^ low f) (units f (fin s m e)) (down e) (down d) p.is.1

  right : n * up d * down e * 2 ^ low f ≡ units f (fin t n d) * (down e * down d)
  right = over-right (n * up d) (2 ^ low f) (units f (fin t n d)) (down d) (down e) q.is.1

-- ---- `<=`, and `<`, which is its opposite

le_iff : (f : Format) (x y : Float) → Exact f x → Exact f y → T (le x y) ↔ (above f x + below f y ≤ above f y + below f x)
unfolding le above below negative
le_iff f nan y p q = absurd p.is
le_iff f (inf s) y p q = absurd p.is
le_iff f (fin s m e) nan p q = absurd q.is
le_iff f (fin s m e) (inf t) p q = absurd q.is
le_iff f (fin s m e) (fin t n d) p q =
    let a = m * up e * down d in
    let b = n * up d * down e in
    let v = units f (fin s m e) in
    let w = units f (fin t n d) in
    Iff.trans (either-iff (Ieee.below s a t b) (Ieee.level s a t b) (cond s 0 a + cond t b 0) (cond t 0 b + cond s a 0) (below-iff s t a b)
    (level-iff s t a b))
    (le-scaled (cond s 0 a + cond t b 0) (cond t 0 b + cond s a 0) (cond s 0 v + cond t w 0) (cond t 0 w + cond s v 0) (2 ^ low f)
    (down e * down d) (pow_pos (low f)) (mul-pos (down_pos e) (down_pos d))
    (parts s t a b v w (2 ^ low f) (down e * down d) (left f s m e t n d p q) (right f s m e t n d p q))
    (parts t s b a w v (2 ^ low f) (down e * down d) (right f s m e t n d p q) (left f s m e t n d p q)))

-- ---- the same over the integers

held : (b : Bool) → T b ↔ (b ≡ true)
held true = ((λ t. refl), λ e. tt)
held false = ((λ t. absurd t), λ e. absurd (true≢false (sym e)))

pub le-value : (f : Format) (x y : Float) → Exact f x → Exact f y → le x y ≡ le_z (value f x) (value f y)
le-value f x y p q = same_test _ _ (Iff.trans (Iff.symm (held (le x y))) (le_iff f x y p q)) (at_most (value-is f x) (value-is f y))

-- ±a < ±b exactly if not ±b <= ±a
lt_not_le : (s t : Bool) (a b : ℕ) → Ieee.below s a t b ≡ not (Ieee.below t b s a || Ieee.level t b s a)
lt_not_le s t a b =
    let back = Ieee.below t b s a || Ieee.level t b s a in
    same_test _ _ (Iff.trans (Iff.symm (held (Ieee.below s a t b))) (below-iff s t a b))
    (strict back _ _ (Iff.trans (Iff.symm (held back))
    (either-iff (Ieee.below t b s a) (Ieee.level t b s a) _ _ (below-iff t s b a) (level-iff t s b a))))
  where
    strict : (b : Bool) (m n : ℕ) → (b ≡ true) ↔ (n ≤ m) → (not b ≡ true) ↔ (m < n)
    strict true m n h = ((λ e. absurd (true≢false (sym e))), λ l. absurd (omega (arith, h.0 refl)))
    strict false m n h = ((λ e. let out : ¬ (n ≤ m) = λ l. true≢false (sym (h.1 l)) in omega arith), λ l. refl)

pub lt-value : (f : Format) (x y : Float) → Exact f x → Exact f y → lt x y ≡ not (le_z (value f y) (value f x))
unfolding lt le
lt-value f nan y p q = absurd p.is
lt-value f (inf s) y p q = absurd p.is
lt-value f (fin s m e) nan p q = absurd q.is
lt-value f (fin s m e) (inf t) p q = absurd q.is
lt-value f (fin s m e) (fin t n d) p q =
    lt_not_le s t (m * up e * down d) (n * up d * down e) ∙ ap not (le-value f (fin t n d) (fin s m e) q p)
