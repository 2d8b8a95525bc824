-- A mean of corner cells is inside, since its side values are means of side values, and means respect the bounds of columns and rows.
use Prim.Native.Nat.{ℕ, ◌+◌, ◌*◌, ◌<◌}
use native.Mathlib.Nat.{mul-le-mul_right, le_of_mul-le-mul_right}
use native.Mathlib.Omega.{arith}
use mathlib.Core.Path.{◌≡◌, refl, ap}
use mathlib.Core.Bool.{Bool, true, false, cond, and-eq-true_iff}
use mathlib.Core.List.{List, [], ◌∷◌}
use lib.IntN.{ℤ, pos, ◌+ℤ◌, ◌-ℤ◌, ◌*ℤ◌}
use lib.Signed.{le_z}
use Rattle.base.proofs.IntegerOrder.{up, down, AtMost, at-most-iff, not-at-most}
use Rattle.base.proofs.Differences.{Is, is-self, is_eq, is-unique, is-add, is-minus, is_mul}
use Rattle.base.proofs.IntegerRing.{times-left, times-minus, times-sum, sum-minus}
use Rattle.convexity.specs.Edges.{Edge}
use Rattle.convexity.specs.Inside.{minℤ, maxℤ, side_value, col_steps, row_steps, lowest_met, highest_met, within}
use Rattle.directions.specs.CornerHull.{Met}
use Rattle.directions.proofs.Directions.{Least0}

-- ---- weighted means

-- w·z = i·p + j·q + k·t
pub record Meanℤ (w i j k : ℕ) (z p q t : ℤ) : Type 0 where
  pub is : pos w *ℤ z ≡ pos i *ℤ p +ℤ pos j *ℤ q +ℤ pos k *ℤ t

-- As naturals
weighs : (i j k : ℕ) (p q t : ℤ)
    → Is (pos i *ℤ p +ℤ pos j *ℤ q +ℤ pos k *ℤ t) (i * up p + j * up q + k * up t) (i * down p + j * down q + k * down t)
weighs i j k p q t =
    record {
      eq = omega (
        arith,
        (is-add (is-add (is_mul (is-self (pos i)) (is-self p)) (is_mul (is-self (pos j)) (is-self q)))
            (is_mul (is-self (pos k)) (is-self t))).eq,
      );
    }

module _ {w i j k : ℕ} where
  mean-eq :
      {z p q t : ℤ} → Meanℤ w i j k z p q t
      → w * up z + (i * down p + j * down q + k * down t) ≡ i * up p + j * up q + k * up t + w * down z
  mean-eq {z} {p} {q} {t} h = omega (arith, is_eq (is_mul (is-self (pos w)) (is-self z)) (weighs i j k p q t) h.is)

  pub mean-of :
      {z p q t : ℤ} → w * up z + (i * down p + j * down q + k * down t) ≡ i * up p + j * up q + k * up t + w * down z
      → Meanℤ w i j k z p q t
  mean-of {z} {p} {q} {t} e = record { is = is-unique (is_mul (is-self (pos w)) (is-self z)) (weighs i j k p q t) (omega arith) }

  pub mean-same : (z : ℤ) → w ≡ i + j + k → Meanℤ w i j k z z z z
  mean-same z e = mean-of (omega (arith, ap (λ (n : ℕ). n * up z) e, ap (λ (n : ℕ). n * down z) e))

  pub mean-minus : {z p q t z' p' q' t' : ℤ} → Meanℤ w i j k z p q t → Meanℤ w i j k z' p' q' t'
      → Meanℤ w i j k (z -ℤ z') (p -ℤ p') (q -ℤ q') (t -ℤ t')
  mean-minus h l = record { is = simp (times-minus, h.is, l.is, sum-minus) }

  pub mean-times : (e : ℤ) {z p q t : ℤ} → Meanℤ w i j k z p q t → Meanℤ w i j k (e *ℤ z) (e *ℤ p) (e *ℤ q) (e *ℤ t)
  mean-times e h = record { is = simp (times-left, h.is, times-sum) }

  -- A mean of numbers that are not below 0 is not below 0
  pub mean-least : {z p q t : ℤ} → 0 < w → Meanℤ w i j k z p q t → Least0 p → Least0 q → Least0 t → Least0 z
  mean-least g h l m n =
      le_of_mul-le-mul_right {k = w} (omega (arith, mean-eq h, mul-le-mul_right i l, mul-le-mul_right j m, mul-le-mul_right k n)) g

  -- The side value of a mean is the mean of the side values
  pub mean-side :
      (ex ey x y : ℤ) {c cp cq ct r rp rq rt : ℤ} → w ≡ i + j + k → Meanℤ w i j k c cp cq ct → Meanℤ w i j k r rp rq rt
      → Meanℤ w i j k (side_value ex ey x y c r) (side_value ex ey x y cp rp) (side_value ex ey x y cq rq) (side_value ex ey x y ct rt)
  unfolding side_value
  mean-side ex ey x y e h l = mean-minus (mean-times ey (mean-minus h (mean-same x e))) (mean-times ex (mean-minus l (mean-same y e)))

-- ---- the bounds of columns and rows

min-low : (a b : ℤ) → AtMost (minℤ a b) a × AtMost (minℤ a b) b
unfolding minℤ
min-low a b = go (le_z a b) refl
  where
    go : (s : Bool) → le_z a b ≡ s → AtMost (cond s a b) a × AtMost (cond s a b) b
    go true e = omega (arith, (at-most-iff a b).0 e)
    go false e = omega (arith, not-at-most a b e)

max-high : (a b : ℤ) → AtMost a (maxℤ a b) × AtMost b (maxℤ a b)
unfolding maxℤ
max-high a b = go (le_z a b) refl
  where
    go : (s : Bool) → le_z a b ≡ s → AtMost a (cond s b a) × AtMost b (cond s b a)
    go true e = omega (arith, (at-most-iff a b).0 e)
    go false e = omega (arith, not-at-most a b e)

-- Steps from x lead to u
pub data Reach : List ℤ → ℤ → ℤ → Type 0 where
  start : {ds : List ℤ} {x : ℤ} → Reach ds x x
  after : {ds : List ℤ} {d x u : ℤ} → Reach ds (x +ℤ d) u → Reach (d ∷ ds) x u

pub met-col : {es : List Edge} {x y u v : ℤ} → Met es x y u v → Reach (col_steps es) x u
unfolding col_steps
met-col Met.start = Reach.start
met-col (Met.after m) = Reach.after (met-col m)

pub met-row : {es : List Edge} {x y u v : ℤ} → Met es x y u v → Reach (row_steps es) y v
unfolding row_steps
met-row Met.start = Reach.start
met-row (Met.after m) = Reach.after (met-row m)

pub lowest-least : (ds : List ℤ) {x u : ℤ} → Reach ds x u → AtMost (lowest_met ds x) u
unfolding lowest_met
lowest-least [] Reach.start = omega arith
lowest-least (d ∷ ds) {x = x} Reach.start = (min-low x (lowest_met ds (x +ℤ d))).0
lowest-least (d ∷ ds) {x = x} (Reach.after m) = omega (arith, (min-low x (lowest_met ds (x +ℤ d))).1, lowest-least ds m)

pub highest-most : (ds : List ℤ) {x u : ℤ} → Reach ds x u → AtMost u (highest_met ds x)
unfolding highest_met
highest-most [] Reach.start = omega arith
highest-most (d ∷ ds) {x = x} Reach.start = (max-high x (highest_met ds (x +ℤ d))).0
highest-most (d ∷ ds) {x = x} (Reach.after m) = omega (arith, (max-high x (highest_met ds (x +ℤ d))).1, highest-most ds m)

-- A bound of all numbers met is a bound of the extremes
lowest-bound : (ds : List ℤ) (a x : ℤ) → ((u : ℤ) → Reach ds x u → AtMost a u) → AtMost a (lowest_met ds x)
unfolding lowest_met minℤ
lowest-bound [] a x h = h x Reach.start
lowest-bound (d ∷ ds) a x h = go (le_z x (lowest_met ds (x +ℤ d))) (lowest-bound ds a (x +ℤ d) (λ u m. h u (Reach.after m)))
  where
    go : (s : Bool) → AtMost a (lowest_met ds (x +ℤ d)) → AtMost a (cond s x (lowest_met ds (x +ℤ d)))
    go true l = h x Reach.start
    go false l = l

highest-bound : (ds : List ℤ) (b x : ℤ) → ((u : ℤ) → Reach ds x u → AtMost u b) → AtMost (highest_met ds x) b
unfolding highest_met maxℤ
highest-bound [] b x h = h x Reach.start
highest-bound (d ∷ ds) b x h = go (le_z x (highest_met ds (x +ℤ d))) (highest-bound ds b (x +ℤ d) (λ u m. h u (Reach.after m)))
  where
    go : (s : Bool) → AtMost (highest_met ds (x +ℤ d)) b → AtMost (cond s (highest_met ds (x +ℤ d)) x) b
    go true l = l
    go false l = h x Reach.start

pub between : (ds : List ℤ) (a b x c : ℤ) → ((u : ℤ) → Reach ds x u → AtMost a u × AtMost u b) → within ds x c ≡ true
    → AtMost a c × AtMost c b
unfolding within
between ds a b x c h e =
    let k = (and-eq-true_iff (le_z (lowest_met ds x) c) (le_z c (highest_met ds x))).0 e in
    omega (
      arith,
      (at-most-iff (lowest_met ds x) c).0 k.0,
      (at-most-iff c (highest_met ds x)).0 k.1,
      lowest-bound ds a x (λ u m. (h u m).0),
      highest-bound ds b x (λ u m. (h u m).1),
    )

-- A mean of numbers met lies between the extremes
low-minus : (a b : ℤ) → AtMost a b → Least0 (b -ℤ a)
low-minus a b h = omega (arith, (is-minus (is-self b) (is-self a)).eq)

minus-low : (a b : ℤ) → Least0 (b -ℤ a) → AtMost a b
minus-low a b h = omega (arith, (is-minus (is-self b) (is-self a)).eq)

module _ {w i j k : ℕ} (g : 0 < w) (e : w ≡ i + j + k) where
  pub mean-low : (a : ℤ) {c p q t : ℤ} → Meanℤ w i j k c p q t → AtMost a p → AtMost a q → AtMost a t → AtMost a c
  mean-low a {c} {p} {q} {t} h l m n =
      minus-low a c (mean-least g (mean-minus h (mean-same a e)) (low-minus a p l) (low-minus a q m) (low-minus a t n))

  pub mean-high : (a : ℤ) {c p q t : ℤ} → Meanℤ w i j k c p q t → AtMost p a → AtMost q a → AtMost t a → AtMost c a
  mean-high a {c} {p} {q} {t} h l m n =
      minus-low c a (mean-least g (mean-minus (mean-same a e) h) (low-minus p a l) (low-minus q a m) (low-minus t a n))

  pub mean-within : (ds : List ℤ) {x c p q t : ℤ} → Meanℤ w i j k c p q t → Reach ds x p → Reach ds x q → Reach ds x t
      → within ds x c ≡ true
  unfolding within
  mean-within ds {x} {c} h p q t =
      let low = lowest_met ds x in
      let high = highest_met ds x in
      (and-eq-true_iff (le_z low c) (le_z c high)).1 (
        (at-most-iff low c).1 (mean-low low h (lowest-least ds p) (lowest-least ds q) (lowest-least ds t)),
        (at-most-iff c high).1 (mean-high high h (highest-most ds p) (highest-most ds q) (highest-most ds t)),
      )
