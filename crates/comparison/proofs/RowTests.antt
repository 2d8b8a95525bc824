-- The tests of two pairs of lists, row by row, are those of the two polygons that have these rows.
use Prim.Native.Nat.{ℕ, zero, suc, ◌+◌, ◌≤◌, ◌<◌, min, max}
use native.Mathlib.Omega.{arith}
use mathlib.Core.Path.{◌≡◌, refl, ◌∙◌}
use mathlib.Core.Bool.{Bool, true, false, not, ◌&&◌, ◌||◌, and-eq-true_iff}
use mathlib.Core.List.{List}
use lib.Dec.{leb, ltb}
use lib.IntN.{ℤ}
use lib.ListN.{get_or}
use borrow.Author.Tests.{lt-ltb, le-ltb, leb-true, leb-false}
use Rattle.base.specs.Same.{sameℤs}
use Rattle.base.proofs.Same.{same-ℤs}
use Rattle.base.specs.Below.{every}
use Rattle.chart.specs.Limits.{side}
use Rattle.chart.specs.declared.Point.{Point}
use Rattle.chart.specs.declared.Nesting.TheVariants.{Equal}
use Rattle.lattice.specs.Chart.{same_point}
use Rattle.lattice.proofs.WalkLaws.{same_point-true}
use Rattle.nesting.specs.Cells.{Polygon, polygon, Fit}
use Rattle.nesting.specs.Answer.{by_tests, nesting}
use Rattle.sweep.specs.parts.Sweep.{row_from, row_to}
use Rattle.sweep.specs.parts.Tests.{run_within, runs_meet, rows_within, rows_apart}
use Rattle.sweep.proofs.Tests.{nesting-by-rows, nesting-self}
use Rattle.comparison.specs.declared.row_walk.Tests.{Tests}
use Rattle.comparison.specs.parts.Rows.{Swept, tests_of, compared_to, compared}

-- Tests that agree below a bound
every-same : (f g : ℕ → Bool) (n : ℕ) → ((r : ℕ) → r < n → f r ≡ g r) → every f n ≡ every g n
unfolding every
every-same f g zero h = refl
every-same f g (suc n) h = rw (every-same f g n (λ r l. h r (omega arith)), h n (omega arith)) refl

-- Two intervals have no common column if one is empty or ends before the other begins
pub apart-is : (a b c d : ℕ) → (leb b a || leb d c || leb b c || leb d a) ≡ not (runs_meet a b c d)
unfolding runs_meet
apart-is a b c d = go (leb b a) (leb d c) (leb b c) (leb d a) refl refl refl refl
  where
    none : min b d ≤ max a c → true ≡ not (ltb (max a c) (min b d))
    none h = rw (le-ltb (max a c) (min b d) h)

    go : (p q s t : Bool) → leb b a ≡ p → leb d c ≡ q → leb b c ≡ s → leb d a ≡ t → (p || q || s || t) ≡ not (ltb (max a c) (min b d))
    go true q s t e f g h = none (omega (arith, leb-true b a e))
    go false true s t e f g h = none (omega (arith, leb-true d c f))
    go false false true t e f g h = none (omega (arith, leb-true b c g))
    go false false false true e f g h = none (omega (arith, leb-true d a h))
    go false false false false e f g h =
        rw (lt-ltb (max a c) (min b d) (omega (arith, leb-false b a e, leb-false d c f, leb-false b c g, leb-false d a h)))

module _ (f e g h : List ℕ) where
  abbrev inward_at : ℕ → Bool
  inward_at r = run_within (get_or f r 0) (get_or e r 0) (get_or g r 0) (get_or h r 0)

  abbrev outward_at : ℕ → Bool
  outward_at r = run_within (get_or g r 0) (get_or h r 0) (get_or f r 0) (get_or e r 0)

  abbrev apart_at : ℕ → Bool
  apart_at r = not (runs_meet (get_or f r 0) (get_or e r 0) (get_or g r 0) (get_or h r 0))

  -- No rows, and one more row
  pub compared-start : record { inward = true; outward = true; apart = true } ≡ compared_to f e g h 0
  unfolding compared_to every
  compared-start = refl

  next_row : (n : ℕ) (i o a w v z : Bool) → record { inward = i; outward = o; apart = a } ≡ compared_to f e g h n
      → w ≡ inward_at n → v ≡ outward_at n → z ≡ apart_at n
      → record { inward = i && w; outward = o && v; apart = a && z } ≡ compared_to f e g h (suc n)
  unfolding compared_to every
  next_row n i o a w v z k p q s = λ j. record { inward = (k j).inward && p j; outward = (k j).outward && q j; apart = (k j).apart && s j }

  pub compared-next : (n : ℕ) (i o a w v z : Bool) → record { inward = i; outward = o; apart = a } ≡ compared_to f e g h n
      → w ≡ inward_at n → v ≡ outward_at n → z ≡ apart_at n
      → record { inward = i && w; outward = o && v; apart = a && z } ≡ compared_to f e g h (n + 1)
  compared-next n i o a w v z k p q s =
      let more : n + 1 ≡ suc n = omega arith in
      rw more (next_row n i o a w v z k p q s)

-- The lists of two polygons
pub compared-swept : (p q : Polygon) (f e g h : List ℕ) → Swept p f e → Swept q g h → compared f e g h ≡ tests_of p q
unfolding compared_to tests_of rows_within rows_apart
compared-swept p q f e g h s t = λ j. record { inward = inward j; outward = outward j; apart = apart j }
  where
    inward : every (inward_at f e g h) side ≡ every (λ r. run_within (row_from p r) (row_to p r) (row_from q r) (row_to q r)) side
    inward = every-same _ _ side (λ r l. rw (s.from r l, s.to r l, t.from r l, t.to r l) refl)

    outward : every (outward_at f e g h) side ≡ every (λ r. run_within (row_from q r) (row_to q r) (row_from p r) (row_to p r)) side
    outward = every-same _ _ side (λ r l. rw (s.from r l, s.to r l, t.from r l, t.to r l) refl)

    apart : every (apart_at f e g h) side ≡ every (λ r. not (runs_meet (row_from p r) (row_to p r) (row_from q r) (row_to q r))) side
    apart = every-same _ _ side (λ r l. rw (s.from r l, s.to r l, t.from r l, t.to r l) refl)

-- ---- how the cells lie

pub nests-by-rows : {p q : Polygon} → Fit p → Fit q → (t : Tests) → t ≡ tests_of p q
    → by_tests t.inward t.outward (not t.apart) ≡ nesting p q
unfolding tests_of
nests-by-rows {p} {q} one two t e = rw e (nesting-by-rows p q one two)

-- The same anchor and the same edges
pub nests-same : (a : Point) (es : List ℤ) (b : Point) (fs : List ℤ) → Fit (polygon a es) → (same_point a b && sameℤs es fs) ≡ true
    → Equal ≡ nesting (polygon a es) (polygon b fs)
nests-same a es b fs fit e =
    let k = (and-eq-true_iff (same_point a b) (sameℤs es fs)).0 e in
    nesting-self (polygon a es) fit ∙ λ i. nesting (polygon a es) (polygon (same_point-true a b k.0 i) (same-ℤs es fs k.1 i))
