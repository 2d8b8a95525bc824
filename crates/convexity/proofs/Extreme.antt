-- At the first corner in a frame's order no step leads to a smaller corner, so the walk arrives there along the opposite of one of the
-- frame's letters and leaves along the other.
use Prim.Native.Nat.{ℕ, zero, suc, ◌+◌, ◌-◌, ◌≤◌, ◌<◌}
use native.Mathlib.Decide.{dec_lt}
use native.Mathlib.Omega.{arith}
use mathlib.Core.Path.{◌≡◌, refl, sym, ap, ◌∙◌, subst}
use mathlib.Core.Logic.{◌⊎◌, inl, inr, ◌≢◌}
use mathlib.Core.Bool.{Bool, true, false, cond, ◌&&◌, ◌||◌}
use lib.Dec.{ltb, eqb}
use borrow.Author.Tests.{ltb-true, leb-false, eqb-true, eqb-false, lt-ltb, le-ltb, eq-eqb}
use Rattle.base.proofs.BelowLaws.{below_suc, and_left, and_right}
use Rattle.chart.specs.Limits.{side}
use Rattle.chart.specs.declared.Point.{Point}
use Rattle.chart.specs.Outline.{Outline}
use Rattle.lattice.specs.Chart.{step, leaves, corner_at, size, letter_at}
use Rattle.lattice.specs.Refusals.{Simple}
use Rattle.lattice.specs.Walked.{Walked}
use Rattle.lattice.proofs.WalkLaws.{OnChart, SameCorners, walked, rotated-walked, turned, length-rotation, point-eq, corner-zero}
use Rattle.lattice.proofs.WalkLaws.{corner-suc, corner-all, corner-injective}
use Rattle.convexity.specs.Frame.{Frame, frame_of, along}
use Rattle.convexity.specs.Cut.{before, least, corner_place, west_place, west, from_w}
use Rattle.convexity.specs.Clockwise.{opposite}
use Rattle.convexity.specs.Shape.{WalkFromW}

-- ---- the least number below a bound

pub least_lt : (lt : ℕ → ℕ → Bool) (n : ℕ) → 0 < n → least lt n < n
unfolding least
least_lt lt zero h = absurd (omega arith)
least_lt lt (suc zero) h = go (lt 0 0)
  where
    go : (b : Bool) → cond b 0 0 < 1
    go true = omega arith
    go false = omega arith
least_lt lt (suc (suc n)) h = go (lt (suc n) (least lt (suc n))) (least_lt lt (suc n) (omega arith))
  where
    go : (b : Bool) → least lt (suc n) < suc n → cond b (suc n) (least lt (suc n)) < suc (suc n)
    go true l = omega arith
    go false l = omega arith

-- No number below n comes before the least one
pub least_first : (lt : ℕ → ℕ → Bool) → ((i : ℕ) → lt i i ≡ false) → ((i j k : ℕ) → lt i j ≡ true → lt j k ≡ true → lt i k ≡ true)
    → (n i : ℕ) → i < n → lt i (least lt n) ≡ false
unfolding least
least_first lt irrefl trans zero i h = absurd (omega arith)
least_first lt irrefl trans (suc n) i h = go (lt n (least lt n)) refl (least_first lt irrefl trans n)
  where
    m : ℕ
    m = least lt n

    at : (b : Bool) → lt n m ≡ true → lt i m ≡ false → lt i n ≡ b → lt i n ≡ false
    at true e f g = let z : ◌≡◌ {A = ℕ} 0 1 = cc (trans i n m g e) in absurd (omega arith)
    at false e f g = g

    go : (b : Bool) → lt n m ≡ b → ((j : ℕ) → j < n → lt j m ≡ false) → lt i (cond b n m) ≡ false
    go true e rest = elim (below_suc i n h) [ inl p ↦ rw p (irrefl n) | inr l ↦ at (lt i n) e (rest i l) refl ]
    go false e rest = elim (below_suc i n h) [ inl p ↦ rw p e | inr l ↦ rest i l ]

-- ---- the order of a frame

pub before-less : (f : Frame) (p q : Point) → along f.earlier p < along f.earlier q → before f p q ≡ true
unfolding before
before-less f p q h = cc (lt-ltb (along f.earlier p) (along f.earlier q) h)

pub before-level : (f : Frame) (p q : Point) → along f.earlier p ≡ along f.earlier q → along f.later p < along f.later q
    → before f p q ≡ true
unfolding before
before-level f p q e h =
    let a : ltb (along f.earlier p) (along f.earlier q) ≡ false =
    le-ltb (along f.earlier p) (along f.earlier q) (omega arith) in
    let b : eqb (along f.earlier p) (along f.earlier q) ≡ true = eq-eqb (along f.earlier p) (along f.earlier q) e in
    let c : ltb (along f.later p) (along f.later q) ≡ true = lt-ltb (along f.later p) (along f.later q) h in
    cc

pub before-cases : (f : Frame) (p q : Point) → before f p q ≡ true
    → (along f.earlier p < along f.earlier q)
    ⊎ ((along f.earlier p ≡ along f.earlier q) × (along f.later p < along f.later q))
unfolding before
before-cases f p q h = go (ltb (along f.earlier p) (along f.earlier q)) refl h
  where
    level : Bool
    level = eqb (along f.earlier p) (along f.earlier q)

    nearer : Bool
    nearer = ltb (along f.later p) (along f.later q)

    go : (b : Bool) → ltb (along f.earlier p) (along f.earlier q) ≡ b → (b || (level && nearer)) ≡ true
        → (along f.earlier p < along f.earlier q)
        ⊎ ((along f.earlier p ≡ along f.earlier q) × (along f.later p < along f.later q))
    go true e k = inl (ltb-true (along f.earlier p) (along f.earlier q) e)
    go false e k =
        inr (
          eqb-true (along f.earlier p) (along f.earlier q) (and_left level nearer k),
          ltb-true (along f.later p) (along f.later q) (and_right level nearer k),
        )

pub before-irrefl : (f : Frame) (p : Point) → before f p p ≡ false
before-irrefl f p = go (before f p p) refl
  where
    go : (b : Bool) → before f p p ≡ b → b ≡ false
    go true e = elim (before-cases f p p e) [ inl h ↦ absurd (omega arith) | inr h ↦ absurd (omega arith) ]
    go false e = refl

pub before-trans : (f : Frame) (p q r : Point) → before f p q ≡ true → before f q r ≡ true → before f p r ≡ true
before-trans f p q r h k =
    elim (before-cases f p q h) [
      | inl a ↦ elim (before-cases f q r k) [ inl b ↦ before-less f p r (omega arith) | inr b ↦ before-less f p r (omega arith) ]
      | inr a ↦
          elim (before-cases f q r k) [
            | inl b ↦ before-less f p r (omega arith)
            | inr b ↦ before-level f p r (omega arith) (omega arith)
          ]
    ]

-- ---- the first corner of a piece

-- The corner at place i is first in frame k
pub record FirstAt (o : Outline) (k i : ℕ) : Type 0 where
  pub below : i < size o
  pub none : (j : ℕ) → j < size o → before (frame_of k) (corner_at o j) (corner_at o i) ≡ false

pub corner_place-lt : (o : Outline) (k : ℕ) → 0 < size o → corner_place o k < size o
unfolding corner_place
corner_place-lt o k h = least_lt (λ i j. before (frame_of k) (corner_at o i) (corner_at o j)) (size o) h

pub corner_place-first : (o : Outline) (k i : ℕ) → i < size o
    → before (frame_of k) (corner_at o i) (corner_at o (corner_place o k)) ≡ false
unfolding corner_place
corner_place-first o k i h =
    least_first (λ i j. before (frame_of k) (corner_at o i) (corner_at o j)) (λ i. before-irrefl (frame_of k) (corner_at o i))
    (λ i j m. before-trans (frame_of k) (corner_at o i) (corner_at o j) (corner_at o m)) (size o) i h

pub first-at-corner_place : (o : Outline) (k : ℕ) → 0 < size o → FirstAt o k (corner_place o k)
first-at-corner_place o k h = record { below = corner_place-lt o k h; none = corner_place-first o k }

-- The outline started at W is a walk from W
pub from-w-of : (o : Outline) → Simple o → WalkFromW (from_w o)
unfolding from_w west_place
from-w-of o t =
    let d : Walked o = walked o t in
    let k : ℕ = corner_place o 0 in
    let h : k ≤ size o = omega (arith, corner_place-lt o 0 (omega arith)) in
    record {
      walked = rotated-walked o k h d;
      west = λ i l.
          let (j, m) = turned o k h d.closed i (omega (arith, length-rotation o k h)) in
          rw m.corner (corner_place-first o 0 j m.below);
    }

-- ---- steps in a frame

pub on_chart : (o : Outline) → Walked o → (i : ℕ) → i ≤ size o → OnChart (corner_at o i)
on_chart o d i h = record { col = d.col_le i h; row = d.row_le i h }

-- The letter a leads from p to q, one step forward or back along one of the frame's letters
pub data Moved (f : Frame) (a : ℕ) (p q : Point) : Type 0 where
  earlier_on : a ≡ f.earlier → along f.earlier q ≡ along f.earlier p + 1 → along f.later q ≡ along f.later p → Moved f a p q
  later-on : a ≡ f.later → along f.earlier q ≡ along f.earlier p → along f.later q ≡ along f.later p + 1 → Moved f a p q
  earlier-back : a ≡ opposite f.earlier → along f.earlier q + 1 ≡ along f.earlier p → along f.later q ≡ along f.later p
      → Moved f a p q
  later-back : a ≡ opposite f.later → along f.earlier q ≡ along f.earlier p → along f.later q + 1 ≡ along f.later p
      → Moved f a p q

zero-no : (n : ℕ) → eqb n 0 ≡ false → 0 < n
zero-no n e = omega (arith, eqb-false n 0 e)

moved : (k a : ℕ) (p : Point) → a < 4 → leaves p a ≡ false → OnChart p → Moved (frame_of k) a p (step p a)
unfolding frame_of along opposite leaves step
moved zero zero p h e c = earlier_on refl refl refl
moved zero (suc zero) p h e c = later-on refl refl refl
moved zero (suc (suc zero)) p h e c = earlier-back refl (omega (arith, zero-no p.col e)) refl
moved zero (suc (suc (suc zero))) p h e c = later-back refl refl (omega (arith, zero-no p.row e))
moved zero (suc (suc (suc (suc a)))) p h e c = absurd (omega arith)
moved (suc zero) zero p h e c = later-on refl refl refl
moved (suc zero) (suc zero) p h e c = earlier-back refl (omega (arith, leb-false side p.row e)) refl
moved (suc zero) (suc (suc zero)) p h e c = later-back refl refl (omega (arith, zero-no p.col e))
moved (suc zero) (suc (suc (suc zero))) p h e c = earlier_on refl (omega (arith, zero-no p.row e)) refl
moved (suc zero) (suc (suc (suc (suc a)))) p h e c = absurd (omega arith)
moved (suc (suc zero)) zero p h e c = earlier-back refl (omega (arith, leb-false side p.col e)) refl
moved (suc (suc zero)) (suc zero) p h e c = later-back refl refl (omega (arith, leb-false side p.row e))
moved (suc (suc zero)) (suc (suc zero)) p h e c = earlier_on refl (omega (arith, zero-no p.col e)) refl
moved (suc (suc zero)) (suc (suc (suc zero))) p h e c = later-on refl refl (omega (arith, zero-no p.row e))
moved (suc (suc zero)) (suc (suc (suc (suc a)))) p h e c = absurd (omega arith)
moved (suc (suc (suc k))) zero p h e c = later-back refl refl (omega (arith, leb-false side p.col e))
moved (suc (suc (suc k))) (suc zero) p h e c = earlier_on refl refl refl
moved (suc (suc (suc k))) (suc (suc zero)) p h e c = later-on refl refl (omega (arith, zero-no p.col e))
moved (suc (suc (suc k))) (suc (suc (suc zero))) p h e c = earlier-back refl (omega (arith, zero-no p.row e)) refl
moved (suc (suc (suc k))) (suc (suc (suc (suc a)))) p h e c = absurd (omega arith)

-- Corners of the chart with the same coordinates in a frame are equal
pub along-injective : (k : ℕ) (p q : Point) → OnChart p → OnChart q → along (frame_of k).earlier p ≡ along (frame_of k).earlier q
    → along (frame_of k).later p ≡ along (frame_of k).later q → p ≡ q
unfolding frame_of along
along-injective zero p q c d e l = point-eq p q e l
along-injective (suc zero) p q c d e l = point-eq p q l (omega arith)
along-injective (suc (suc zero)) p q c d e l = point-eq p q (omega arith) (omega arith)
along-injective (suc (suc (suc k))) p q c d e l = point-eq p q (omega arith) e

pub not-before-earlier : (f : Frame) (p q : Point) → before f p q ≡ false → along f.earlier q ≤ along f.earlier p
not-before-earlier f p q h =
    elim (dec_lt (along f.earlier p) (along f.earlier q)) [
      | yes l ↦ let z : ◌≡◌ {A = ℕ} 0 1 = cc (before-less f p q l) in absurd (omega arith)
      | no l ↦ omega arith
    ]

pub not-before-later : (f : Frame) (p q : Point) → before f p q ≡ false → along f.earlier p ≡ along f.earlier q
    → along f.later q ≤ along f.later p
not-before-later f p q h e =
    elim (dec_lt (along f.later p) (along f.later q)) [
      | yes l ↦ let z : ◌≡◌ {A = ℕ} 0 1 = cc (before-level f p q e l) in absurd (omega arith)
      | no l ↦ omega arith
    ]

-- If neither of two corners comes before the other, they are equal
pub first-unique : (k : ℕ) (p q : Point) → OnChart p → OnChart q → before (frame_of k) p q ≡ false → before (frame_of k) q p ≡ false → p ≡ q
first-unique k p q c d g h =
    let e : along (frame_of k).earlier p ≡ along (frame_of k).earlier q =
    omega (arith, not-before-earlier (frame_of k) p q g, not-before-earlier (frame_of k) q p h) in
    along-injective k p q c d e (omega (arith, not-before-later (frame_of k) p q g e, not-before-later (frame_of k) q p h (sym e)))

-- Walks that leave the same corners have the same first corner of each piece
pub first-shared : (o v : Outline) → Walked o → Walked v → SameCorners o v → (k : ℕ)
    → corner_at o (corner_place o k) ≡ corner_at v (corner_place v k)
first-shared o v t u same k =
    let f = first-at-corner_place o k (omega (arith, t.long)) in
    let g = first-at-corner_place v k (omega (arith, u.long)) in
    let (j, m, e) = same.there (corner_place o k) f.below in
    let (i, l, d) = same.back (corner_place v k) g.below in
    first-unique k (corner_at o (corner_place o k)) (corner_at v (corner_place v k))
    (on_chart o t (corner_place o k) (omega (arith, f.below))) (on_chart v u (corner_place v k) (omega (arith, g.below)))
    (subst (λ (p : Point). before (frame_of k) p (corner_at v (corner_place v k)) ≡ false) e (g.none j m))
    (subst (λ (p : Point). before (frame_of k) p (corner_at o (corner_place o k)) ≡ false) d (f.none i l))

-- How a walk can pass the first corner of a frame: the letter that arrives and the letter that leaves
pub data Bend (f : Frame) (a b : ℕ) : Type 0 where
  by-later : a ≡ opposite f.earlier → b ≡ f.later → Bend f a b
  by-earlier : a ≡ opposite f.later → b ≡ f.earlier → Bend f a b

bend-of : (f : Frame) (a b : ℕ) (p c q : Point) → before f p c ≡ false → before f q c ≡ false
    → (along f.earlier p ≡ along f.earlier q → along f.later p ≡ along f.later q → ⊥) → Moved f b c q → Moved f a p c
    → Bend f a b
bend-of f a b p c q hp hq far (earlier_on x y z) (earlier_on x' y' z') = absurd (omega (arith, not-before-earlier f p c hp))
bend-of f a b p c q hp hq far (earlier_on x y z) (later-on x' y' z') = absurd (omega (arith, not-before-later f p c hp (omega arith)))
bend-of f a b p c q hp hq far (earlier_on x y z) (earlier-back x' y' z') = absurd (far (omega arith) (omega arith))
bend-of f a b p c q hp hq far (earlier_on x y z) (later-back x' y' z') = by-earlier x' x
bend-of f a b p c q hp hq far (later-on x y z) (earlier_on x' y' z') = absurd (omega (arith, not-before-earlier f p c hp))
bend-of f a b p c q hp hq far (later-on x y z) (later-on x' y' z') = absurd (omega (arith, not-before-later f p c hp (omega arith)))
bend-of f a b p c q hp hq far (later-on x y z) (earlier-back x' y' z') = by-later x' x
bend-of f a b p c q hp hq far (later-on x y z) (later-back x' y' z') = absurd (far (omega arith) (omega arith))
bend-of f a b p c q hp hq far (earlier-back x y z) m = absurd (omega (arith, not-before-earlier f q c hq))
bend-of f a b p c q hp hq far (later-back x y z) m = absurd (omega (arith, not-before-later f q c hq (omega arith)))

-- The place before place i of n, cyclically
unfoldable pub previous : ℕ → ℕ → ℕ
previous n zero = n - 1
previous n (suc i) = i

module _ (o : Outline) (d : Walked o) where
  pub corner-round : corner_at o (size o) ≡ corner_at o 0
  corner-round = corner-all o ∙ d.closed ∙ sym (corner-zero o)

  pub moves : (k i : ℕ) → i < size o → Moved (frame_of k) (letter_at o i) (corner_at o i) (corner_at o (suc i))
  moves k i h = rw (corner-suc o i h) (moved k (letter_at o i) (corner_at o i) (d.letter i h) (d.stays i h) (on_chart o d i (omega arith)))

  previous-lt : (i : ℕ) → i < size o → previous (size o) i < size o
  unfolding previous
  previous-lt zero h = omega arith
  previous-lt (suc i) h = omega arith

  corner-previous : (i : ℕ) → corner_at o (suc (previous (size o) i)) ≡ corner_at o i
  unfolding previous
  corner-previous zero = ap (corner_at o) (omega (arith, d.long)) ∙ corner-round
  corner-previous (suc i) = refl

  -- The place after place i, cyclically
  record After (i j : ℕ) : Type 0 where
    below : j < size o
    corner : corner_at o (suc i) ≡ corner_at o j
    apart : previous (size o) i ≢ j

  place_after : (i : ℕ) → i < size o → (j : ℕ) × After i j
  unfolding previous
  place_after i h =
      elim (dec_lt (suc i) (size o)) [
        | yes l ↦ (suc i, record { below = l; corner = refl; apart = apart i l })
        | no l ↦ (0, record { below = omega arith; corner = ap (corner_at o) (omega arith) ∙ corner-round; apart = back i h (omega arith) })
      ]
    where
      apart : (i : ℕ) → suc i < size o → previous (size o) i ≢ suc i
      apart zero l = omega (arith, d.long)
      apart (suc i) l = omega arith

      back : (i : ℕ) → i < size o → suc i ≡ size o → previous (size o) i ≢ 0
      back zero h e = omega (arith, d.long)
      back (suc i) h e = omega (arith, d.long)

  -- At the first corner of a frame
  pub bend : (k i : ℕ) → FirstAt o k i → Bend (frame_of k) (letter_at o (previous (size o) i)) (letter_at o i)
  bend k i t =
      let h : i < size o = t.below in
      let j : ℕ = previous (size o) i in
      let l : j < size o = previous-lt i h in
      let (m, r) = place_after i h in
      let far : corner_at o j ≡ corner_at o m → ⊥ = λ e. r.apart (corner-injective o d j m l r.below e) in
      bend-of (frame_of k) (letter_at o j) (letter_at o i) (corner_at o j) (corner_at o i) (corner_at o m) (t.none j l) (t.none m r.below)
      (λ x y. far (along-injective k (corner_at o j) (corner_at o m) (on_chart o d j (omega arith)) (on_chart o d m (omega (arith, r.below)))
      x y))
      (rw r.corner at (moves k i h)) (rw corner-previous at (moves k j l))
