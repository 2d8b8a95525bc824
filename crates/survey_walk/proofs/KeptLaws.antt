-- Each number kept is that of the first corner of those passed in its piece's frame, with its place.
use Rattle.std.proofs.Common.{◌≡◌, ℕ, zero, suc, ◌+◌, ◌-◌, ◌%◌, ◌<◌, ◌≤◌, Bool, true, false, cond, ltb, refl, ap, ◌∙◌, add-one, arith, ltb-true, ltb-false}
use Prim.Native.Nat.{min, max}
use Rattle.chart.specs.declared.Point.{Point}
use Rattle.chart.specs.Outline.{Outline}
use Rattle.lattice.specs.Chart.{corner_at, size}
use Rattle.lattice.proofs.WalkLaws.{OnChart, point-eq}
use Rattle.convexity.specs.Frame.{frame_of}
use Rattle.convexity.specs.Cut.{before, least, corner_place}
use Rattle.convexity.proofs.Extreme.{least_lt}
use Rattle.survey_walk.specs.parts.Numbers.{col_number, row_number, corner_read, row_of}
use Rattle.survey_walk.proofs.NumberLaws.{Visits, LeastFirst, GreatestFirst}

-- The lower and the higher of two numbers, by one test
lower-is : (best n : ℕ) → min best n ≡ cond (ltb n best) n best
lower-is best n = go (ltb n best) refl
  where
    go : (x : Bool) → ltb n best ≡ x → min best n ≡ cond x n best
    go true e = omega (arith, ltb-true n best e)
    go false e = omega (arith, ltb-false n best e)

higher-is : (best n : ℕ) → max best n ≡ cond (ltb best n) n best
higher-is best n = go (ltb best n) refl
  where
    go : (x : Bool) → ltb best n ≡ x → max best n ≡ cond x n best
    go true e = omega (arith, ltb-true best n e)
    go false e = omega (arith, ltb-false best n e)

module _ (o : Outline) (k : ℕ) where
  -- The place of the first corner among those before place i
  abbrev pub first_of : ℕ → ℕ
  first_of i = least (λ i j. before (frame_of k) (corner_at o i) (corner_at o j)) i

  pub first-le : (i : ℕ) → first_of i ≤ i - 1
  unfolding least
  first-le zero = omega arith
  first-le (suc i) = omega (arith, least_lt (λ i j. before (frame_of k) (corner_at o i) (corner_at o j)) (suc i) (omega arith))

  pub place-le : corner_place o k ≤ size o - 1
  unfolding corner_place
  place-le = first-le (size o)

  module _ (f : Point → ℕ → ℕ) where
    abbrev pub Kept : ℕ → ℕ → Type 0
    Kept i best = best ≡ f (corner_at o (first_of i)) (first_of i)

    pub kept-start : {n : ℕ} → n ≡ f (corner_at o 0) 0 → Kept 0 n
    unfolding least
    kept-start e = e

    module _ {i best n : ℕ} (t : Kept i best) (c : n ≡ f (corner_at o i) i)
        (v : Visits (corner_at o i) (corner_at o (first_of i)) i (first_of i)) where
      -- The current corner if it comes first, and otherwise the one kept
      chosen : (x : Bool) → x ≡ before (frame_of k) (corner_at o i) (corner_at o (first_of i)) → Kept (i + 1) (cond x n best)
      unfolding least
      chosen true e = rw (add-one, ← e) c
      chosen false e = rw (add-one, ← e) t

      pub kept-lower : LeastFirst k f → Kept (i + 1) (min best n)
      kept-lower order =
          rw (lower-is best n) (chosen (ltb n best) (rw (c, t) (order (corner_at o i) (corner_at o (first_of i)) i (first_of i) v)))

      pub kept-higher : GreatestFirst k f → Kept (i + 1) (max best n)
      kept-higher order =
          rw (higher-is best n) (chosen (ltb best n) (rw (c, t) (order (corner_at o i) (corner_at o (first_of i)) i (first_of i) v)))

    pub kept-end : {i best : ℕ} → Kept i best → i ≡ size o → best ≡ f (corner_at o (corner_place o k)) (corner_place o k)
    unfolding corner_place
    kept-end t e = t ∙ ap (λ (n : ℕ). f (corner_at o (first_of n)) (first_of n)) e

-- ---- read back

module _ {p : Point} {i n : ℕ} (h : OnChart p) (small : i < 1024) where
  pub col-place : n ≡ col_number p i → n % 1024 ≡ i
  col-place e = omega (arith, h.col, h.row)

  pub col-corner : n ≡ col_number p i → corner_read n ≡ p
  col-corner e = point-eq (corner_read n) p (omega (arith, h.col, h.row)) (omega (arith, h.col, h.row))

  pub row-place : n ≡ row_number p i → n % 65536 ≡ i
  row-place e = omega (arith, h.col, h.row)

  pub row-row : n ≡ row_number p i → row_of n ≡ p.row
  row-row e = omega (arith, h.col, h.row)
