-- Intervals decide how two polygons lie, since a row of a hull is an interval: within is
-- within in each row, and a common cell is a common column of a row.
use Prim.Native.Nat.{ℕ, ◌<◌, ◌-◌, min, max}
use native.Mathlib.Decide.{dec_le}
use native.Mathlib.Omega.{arith}
use mathlib.Core.Path.{◌≡◌, refl, sym, ◌∙◌}
use mathlib.Core.Bool.{Bool, true, false, true≢false, not, ◌&&◌, ◌||◌, and-eq-true_iff}
use lib.Dec.{leb, ltb}
use borrow.Author.Tests.{le-leb, lt-leb, leb-true, ltb-true, lt-ltb, not-true, not-false}
use Rattle.base.specs.Below.{every}
use Rattle.base.proofs.BelowLaws.{every-at, every_of, every-fails, same_test}
use Rattle.chart.specs.Limits.{side}
use Rattle.chart.specs.declared.Nesting.TheVariants.{Equal}
use Rattle.nesting.specs.Cells.{Polygon, Fit, Holds, Within, Common}
use Rattle.nesting.specs.Rows.{rows_meet}
use Rattle.nesting.specs.Answer.{by_tests, lies_within, nesting}
use Rattle.nesting.proofs.Runs.{In}
use Rattle.nesting.proofs.Within.{within-iff-test}
use Rattle.nesting.proofs.Meet.{held_below, meet-iff-test}
use Rattle.nesting.proofs.Answer.{answer-iff}
use Rattle.sweep.specs.parts.Sweep.{row_from, row_to}
use Rattle.sweep.specs.parts.Tests.{run_within, runs_meet, rows_within, rows_apart}
use Rattle.sweep.proofs.Runs.{run_holds, run-below}

-- ---- two intervals

within-says : (a b c d : ℕ) → run_within a b c d ≡ true → (n : ℕ) → In a b n → In c d n
unfolding run_within
within-says a b c d e n h = go (leb b a) refl e
  where
    go : (s : Bool) → leb b a ≡ s → (s || (leb c a && leb b d)) ≡ true → In c d n
    go true f k = absurd (omega (arith, leb-true b a f))
    go false f k =
        let m = (and-eq-true_iff (leb c a) (leb b d)).0 k in
        omega (arith, leb-true c a m.0, leb-true b d m.1)

-- The first and the last column of an interval that is not empty lie in the other
says-within : (a b c d : ℕ) → (a < b → In c d a × In c d (b - 1)) → run_within a b c d ≡ true
unfolding run_within
says-within a b c d h =
    elim (dec_le b a) [
      | yes k ↦ rw (le-leb b a k) refl
      | no k ↦
          let l = h (omega arith) in
          rw (lt-leb b a (omega arith)) ((and-eq-true_iff (leb c a) (leb b d)).1 (le-leb c a l.0.0, le-leb b d (omega (arith, l.1))))
    ]

module _ (p q : Polygon) (one : Fit p) (two : Fit q) where
  within-runs : Within (Holds p) (Holds q) → rows_within p q ≡ true
  unfolding rows_within
  within-runs w =
      every_of _ side λ r l. says-within (row_from p r) (row_to p r) (row_from q r) (row_to q r)
      (λ some. (
        holds r (row_from p r) (omega (arith, run-below p r)) (omega arith),
        holds r (row_to p r - 1) (omega (arith, run-below p r)) (omega arith),
      ))
    where
      holds : (r n : ℕ) → n < side → In (row_from p r) (row_to p r) n → In (row_from q r) (row_to q r) n
      holds r n l h = (run_holds q two r n l).1 (w (record { col = n; row = r }) ((run_holds p one r n l).0 h))

  runs-within : rows_within p q ≡ true → Within (Holds p) (Holds q)
  unfolding rows_within
  runs-within e x h =
      let l = held_below p one x.col x.row h in
      let k = every-at _ side e x.row l.1 in
      (run_holds q two x.row x.col l.0).0 (within-says _ _ _ _ k x.col ((run_holds p one x.row x.col l.0).1 h))

  -- The test of corner cells equals the test by rows
  pub within-by-rows : lies_within p q ≡ rows_within p q
  within-by-rows = same_test (lies_within p q) (rows_within p q) (within-iff-test p q one two) (runs-within, within-runs)

  -- The common columns of two intervals of a row
  abbrev lo : ℕ → ℕ
  lo r = max (row_from p r) (row_from q r)

  abbrev hi : ℕ → ℕ
  hi r = min (row_to p r) (row_to q r)

  abbrev meets : ℕ → Bool
  meets r = ltb (lo r) (hi r)

  common-row : Common (Holds p) (Holds q) → (r : ℕ) × (r < side) × (meets r ≡ true)
  common-row k =
      let c = k.cell.col in
      let r = k.cell.row in
      let l = held_below p one c r k.in_first in
      let s = (run_holds p one r c l.0).1 k.in_first in
      let t = (run_holds q two r c l.0).1 k.in_second in
      (r, l.1, lt-ltb (lo r) (hi r) (omega (arith, s.0, s.1, t.0, t.1)))

  row_common : (r : ℕ) → meets r ≡ true → Common (Holds p) (Holds q)
  row_common r e =
      let h = ltb-true (lo r) (hi r) e in
      let l : lo r < side = omega (arith, h, run-below p r) in
      record {
        cell = record { col = lo r; row = r };
        in_first = (run_holds p one r (lo r) l).0 (omega (arith, h));
        in_second = (run_holds q two r (lo r) l).0 (omega (arith, h));
      }

  runs-common : not (rows_apart p q) ≡ true → Common (Holds p) (Holds q)
  unfolding rows_apart runs_meet
  runs-common e =
      let k = every-fails (λ r. not (meets r)) side (not-true _ e) in
      row_common k.0 (not-false _ k.2)

  common-runs : Common (Holds p) (Holds q) → not (rows_apart p q) ≡ true
  unfolding rows_apart runs_meet
  common-runs k = go (every (λ r. not (meets r)) side) refl
    where
      go : (s : Bool) → every (λ r. not (meets r)) side ≡ s → not s ≡ true
      go true e =
          let m = common-row k in
          absurd (true≢false (sym m.2 ∙ not-true _ (every-at (λ r. not (meets r)) side e m.0 m.1)))
      go false e = refl

  -- The test of rows equals the test by the intervals of the pass
  pub apart-by-rows : rows_meet p q ≡ not (rows_apart p q)
  apart-by-rows = same_test (rows_meet p q) (not (rows_apart p q)) (meet-iff-test p q one two) (runs-common, common-runs)

-- The answer by these intervals
pub nesting-by-rows : (p q : Polygon) → Fit p → Fit q → by_tests (rows_within p q) (rows_within q p) (not (rows_apart p q)) ≡ nesting p q
unfolding nesting
nesting-by-rows p q one two = rw (within-by-rows p q one two, within-by-rows q p two one, apart-by-rows p q one two) refl

-- A polygon compared with itself
pub nesting-self : (p : Polygon) → Fit p → Equal ≡ nesting p p
nesting-self p fit = sym ((answer-iff p p fit fit Equal).0 ((λ x h. h), λ x h. h))
