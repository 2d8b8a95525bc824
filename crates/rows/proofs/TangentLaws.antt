-- The row furthest left, seen from row i, is on the hull chain that starts at row i + 1 (monotone chain). As long as the next row of the
-- chain is at least as far left, all rows between are right of the line to it. Once it is less far left, so are all rows above.
use Rattle.std.proofs.Common.{◌≡◌, ℕ, zero, suc, ◌+◌, ◌-◌, ◌*◌, ◌<◌, ◌≤◌, Bool, true, false, leb, sym, refl, ap, ◌∙◌, true≢false, arith, le-leb}
use native.Mathlib.Decide.{dec_lt}
use borrow.Author.Tests.{lt-leb}
use Rattle.base.proofs.BelowLaws.{not-held}
use Rattle.rows.specs.Search.{as_far_left, furthest}
use Rattle.rows.proofs.Line.{Right, right-from, right-trans, right-below, right-over}
use Rattle.rows.proofs.Rows.{begin}
use Rattle.rows.proofs.SearchLaws.{edge_end, furthest-end, furthest-next}
use Rattle.rows.proofs.Side.{Furthest, as-far-left-true}

right-as-far-left : (lo : ℕ → ℕ) (i j k : ℕ) → i ≤ j → i ≤ k → Right (begin lo i) (begin lo k) (begin lo j) → as_far_left lo i j k ≡ true
unfolding as_far_left
right-as-far-left lo i j k l m h = le-leb _ _ ((right-from m l).0 h).le

-- The test without the term a * x on both sides. The second row is x rows above the first. The third is y rows above the first and z rows
-- above the second
as-far-left-offsets : (a b c x y z : ℕ) → y ≡ x + z → leb (c * x + a * z) (b * y) ≡ leb (c * x + a * y) (b * y + a * x)
as-far-left-offsets a b c x y z e =
    let d : a * y ≡ a * x + a * z = omega (arith, ap (λ n. a * n) e) in
    elim (dec_lt (b * y) (c * x + a * z)) [
      | yes l ↦ rw (lt-leb (c * x + a * z) (b * y) l, lt-leb (c * x + a * y) (b * y + a * x) (omega arith))
      | no l ↦ rw (le-leb (c * x + a * z) (b * y) (omega arith), le-leb (c * x + a * y) (b * y + a * x) (omega arith))
    ]

pub as-far-left-columns : (lo : ℕ → ℕ) (i j k : ℕ) → i ≤ j → j ≤ k
    → leb (lo k * (j - i) + lo i * (k - i - (j - i))) (lo j * (k - i)) ≡ as_far_left lo i j k
unfolding as_far_left
as-far-left-columns lo i j k l m = as-far-left-offsets (lo i) (lo j) (lo k) (j - i) (k - i) (k - i - (j - i)) (omega arith)

-- Seen from row i, row j is the furthest left of the rows up to j. Seen from row j, row k is the furthest left
module _ (lo : ℕ → ℕ) (t i j k : ℕ) (f : Furthest lo i j (suc j)) (g : Furthest lo j k t) where
  -- If row k is at least as far left as row j, seen from row i, then it is the furthest left of the rows up to k
  pub furthest-on : as_far_left lo i j k ≡ true → Furthest lo i k (suc k)
  furthest-on e =
      let a : i < j = f.above in
      let b : j < k = g.above in
      let c : k < t = g.below in
      let d = as-far-left-true lo i j k (omega arith) (omega arith) e in
      record {
        above = omega arith;
        below = omega arith;
        right = λ r l m.
            elim (dec_lt j r) [
              | yes n ↦ right-below (omega arith) (omega arith) (omega arith) d (g.right r n (omega arith))
              | no n ↦ right-trans (omega arith) (omega arith) (omega arith) d (f.right r l (omega arith))
            ];
      }

  -- If it is not, then no row above row j is
  pub furthest-off : as_far_left lo i j k ≡ false → (r : ℕ) → j < r → r < t → as_far_left lo i j r ≡ false
  furthest-off e r l m =
      let a : i < j = f.above in
      let b : j < k = g.above in
      not-held (as_far_left lo i j r) λ d.
      true≢false
      (sym
      (right-as-far-left lo i j k (omega arith) (omega arith)
      (right-over (omega arith) l (omega arith) (as-far-left-true lo i j r (omega arith) (omega arith) d) (g.right r l m)))
      ∙ e)

-- Seen from row i, row j is the furthest left of the rows up to j, and no row above it and below row t is as far left
module _ (lo : ℕ → ℕ) (t i j : ℕ) (f : Furthest lo i j (suc j)) (below : j < t) (off : (r : ℕ) → j < r → r < t
    → as_far_left lo i j r ≡ false) where
  -- The search stays at row j, and from a lower row it reaches row j
  furthest-stays : (k n : ℕ) → k + n ≡ t → j < k → furthest lo i j k (t - k) ≡ j
  furthest-stays k zero e h = furthest-end lo i t j k (omega arith)
  furthest-stays k (suc n) e h =
      furthest-next lo i t j k false (omega arith) (off k h (omega arith)) ∙ furthest-stays (k + 1) n (omega arith) (omega arith)

  furthest-reaches : (m k n : ℕ) → k + n ≡ j → i < m → m < k → furthest lo i m k (t - k) ≡ j
  furthest-reaches m k zero e l h =
      let d : k ≡ j = omega arith in
      let c = right-as-far-left lo i m j (omega arith) (omega arith) (f.right m l (omega arith)) in
      rw d (furthest-next lo i t m j true below c ∙ furthest-stays (j + 1) (t - (j + 1)) (omega arith) (omega arith))
  furthest-reaches m k (suc n) e l h =
      go (as_far_left lo i m k) refl λ r. λ (a : i < r) (b : r < k + 1). furthest-reaches r (k + 1) n (omega arith) a b
    where
      go : (b : Bool) → as_far_left lo i m k ≡ b → ((r : ℕ) → i < r → r < k + 1 → furthest lo i r (k + 1) (t - (k + 1)) ≡ j)
          → furthest lo i m k (t - k) ≡ j
      go true d rest = furthest-next lo i t m k true (omega arith) d ∙ rest k (omega arith) (omega arith)
      go false d rest = furthest-next lo i t m k false (omega arith) d ∙ rest m l (omega arith)

  pub furthest-is : j ≡ edge_end lo t i
  furthest-is =
      let a : i < j = f.above in
      elim (dec_lt (suc i) j) [
        | yes l ↦ sym (furthest-reaches (suc i) (suc (suc i)) (j - suc (suc i)) (omega arith) (omega arith) (omega arith))
        | no l ↦
            let e : suc i ≡ j = omega arith in
            sym (rw e (furthest-stays (suc j) (t - suc j) (omega arith) (omega arith)))
      ]
