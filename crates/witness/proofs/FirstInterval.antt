-- The first interval of a row of a block ends at the row's second side. Without a side the next cell is like the one before it. A side with
-- an enclosed cell on its left runs down, so the cell on its right is not enclosed.
use Prim.Native.Nat.{ℕ, zero, suc, pred, ◌+◌, ◌-◌, ◌≤◌, ◌<◌}
use mathlib.Core.Path.{◌≡◌, refl, sym, ap, ◌∙◌, subst, subst₂}
use mathlib.Core.Bool.{Bool, true, false, ◌&&◌, and-eq-true_iff}
use mathlib.Core.Logic.{◌⊎◌, inl, inr}
use native.Mathlib.Decide.{dec_le}
use native.Mathlib.Omega.{arith}
use lib.Dec.{ltb}
use borrow.Author.Tests.{ltb-true, lt-ltb}
use Rattle.chart.specs.Limits.{side}
use Rattle.chart.specs.declared.Point.{Point}
use Rattle.chart.specs.Outline.{Outline, at}
use Rattle.lattice.specs.Chart.{corner_at, letter_at}
use Rattle.lattice.specs.Refusals.{Simple}
use Rattle.lattice.specs.Walked.{Walked}
use Rattle.lattice.proofs.WalkLaws.{point-eq, walked}
use Rattle.lattice.proofs.Jumps.{ups_at, downs_at, ups-jump-vertical, downs-jump-vertical, ups-found, downs-found}
use Rattle.lattice.proofs.RightHand.{left_of, Lowest, clockwise-left}
use Rattle.convexity.specs.Cut.{west_place}
use Rattle.convexity.specs.Clockwise.{clockwise_form, border, block}
use Rattle.convexity.proofs.Clockwise.{simple-form, clockwise-form, west-first, leaving-west}
use Rattle.convexity.proofs.Levels.{Out, enclosed-level, level-enclosed, level-open, first-lowest, leaves-upwards}
use Rattle.completion.specs.Complete.{first_cell, past_cell}
use Rattle.completion.specs.Sides.{along_row, first_side, last_side, lowest_corner, highest_corner}
use Rattle.completion.proofs.HullRows.{Ends}
use Rattle.completion.proofs.BlockEnds.{block-joined, ends}
use Rattle.completion.proofs.Folds.{least-met, least-is-met}
use Rattle.completion.proofs.Sides.{Side, along-cases, along-up, along-down, side-sent, side-read, first-side, last-side, lowest-corner}
use Rattle.completion.proofs.Sides.{highest-corner}
use Rattle.witness.specs.Gap.{second_side}
use Rattle.witness.proofs.Gap.{FirstRun}

row_is : {p q : Point} → p ≡ q → p.row ≡ q.row
row_is e = ap (λ (x : Point). x.row) e

col-is : {p q : Point} → p ≡ q → p.col ≡ q.col
col-is e = ap (λ (x : Point). x.col) e

module _ (o : Outline) (h : Simple o) where
  w : Walked (clockwise_form o)
  w = walked (clockwise_form o) (simple-form o h)

  lowest : Lowest (clockwise_form o) (west_place (clockwise_form o))
  lowest = first-lowest (clockwise_form o) (west_place (clockwise_form o)) (west-first (clockwise_form o) w)

  up : letter_at (clockwise_form o) (west_place (clockwise_form o)) ≡ 1
  up = sym (leaving-west (clockwise_form o) w) ∙ leaves-upwards (border o) (clockwise-form o h)

  -- Without a side the next cell is like the one before it
  goes_on : (c r : ℕ) → block o c r ≡ true → (Side o r (suc c) → ⊥) → block o (suc c) r ≡ true
  goes_on c r e n =
      level-enclosed (clockwise_form o) (at (suc c) r)
      (omega (
        arith,
        enclosed-level (clockwise_form o) (at c r) e,
        ups-jump-vertical (clockwise_form o) (suc c) (suc r),
        downs-jump-vertical (clockwise_form o) (suc c) (suc r),
        no-ups,
        no-downs,
      ))
    where
      no-ups : ups_at (clockwise_form o) (suc c) (suc r) ≡ 0
      no-ups =
          elim (dec_le 1 (ups_at (clockwise_form o) (suc c) (suc r))) [
            | no k ↦ omega arith
            | yes k ↦
                let (i, l, a, d, _) = ups-found (clockwise_form o) (suc c) (suc r) k in
                absurd (n (side-sent o h r (suc c)
                (record {
                  place = i;
                  below = l;
                  passes = along-up r (corner_at (clockwise_form o) i) (letter_at (clockwise_form o) i) a (row_is d ∙ omega arith);
                  value = col-is d;
                })))
          ]

      no-downs : downs_at (clockwise_form o) (suc c) (suc r) ≡ 0
      no-downs =
          elim (dec_le 1 (downs_at (clockwise_form o) (suc c) (suc r))) [
            | no k ↦ omega arith
            | yes k ↦
                let (i, l, a, d) = downs-found (clockwise_form o) (suc c) (suc r) k in
                absurd (n (side-sent o h r (suc c)
                (record {
                  place = i;
                  below = l;
                  passes = along-down r (corner_at (clockwise_form o) i) (letter_at (clockwise_form o) i) a (row_is d);
                  value = col-is d;
                })))
          ]

  -- A side right of an enclosed cell runs down, and the cell after it is not enclosed
  stops : (c r : ℕ) → block o c r ≡ true → Side o r (suc c) → block o (suc c) r ≡ false
  unfolding left_of
  stops c r e s =
      let m = side-read o h r (suc c) s in
      let i = m.place in
      let p = corner_at (clockwise_form o) i in
      let a = letter_at (clockwise_form o) i in
      let k : Out (clockwise_form o) (left_of p a) =
      clockwise-left (clockwise_form o) w (west_place (clockwise_form o)) lowest up i m.below in
      elim (along-cases r p a m.passes) [
        | inl (d, q) ↦
            let cell : left_of p a ≡ at (suc c) (suc r) = ap (left_of p) d
            ∙ point-eq (at p.col (suc p.row)) (at (suc c) (suc r)) m.value (ap suc q) in
            absurd (omega (arith, enclosed-level (clockwise_form o) (at c r) e, subst (Out (clockwise_form o)) cell k))
        | inr (d, q) ↦
            let cell : left_of p a ≡ at (suc (suc c)) (suc r) = ap (left_of p) d
            ∙ point-eq (at (suc p.col) p.row) (at (suc (suc c)) (suc r)) (ap suc m.value) q in
            level-open (clockwise_form o) (at (suc c) r) (subst (Out (clockwise_form o)) cell k)
      ]

  -- ---- the rows as the letters give them

  pub side-ends : Ends (block o) (first_side o) (last_side o) (lowest_corner o) (highest_corner o)
  side-ends =
      subst₂ (λ (f g : ℕ → ℕ). Ends (block o) f g (lowest_corner o) (highest_corner o)) (λ i r. sym (first-side o h r) i)
      (λ i r. sym (last-side o h r) i)
      (subst₂ (λ (m n : ℕ). Ends (block o) (first_cell (block o)) (past_cell (block o)) m n) (sym (lowest-corner o h))
      (sym (highest-corner o h))
      (ends (block o) (block-joined o h)))

  abbrev beyond : ℕ → Point → ℕ → Bool
  beyond r p a = along_row r p a && ltb (first_side o r) p.col

  -- The second side is the smallest after the first
  second-le : (r c : ℕ) → Side o r c → first_side o r < c → second_side o r ≤ c
  unfolding second_side
  second-le r c s l =
      let p = corner_at o s.place in
      let a = letter_at o s.place in
      let d : first_side o r < p.col = omega (arith, s.value) in
      least-met (beyond r) (λ p. p.col) o.start o.letters side c
      (record {
        place = s.place;
        below = s.below;
        passes = (and-eq-true_iff (along_row r p a) (ltb (first_side o r) p.col)).1 (s.passes, lt-ltb (first_side o r) p.col d);
        value = s.value;
      })

  second-met : (r : ℕ) → (second_side o r ≡ side) ⊎ (Side o r (second_side o r) × (first_side o r < second_side o r))
  unfolding second_side
  second-met r =
      elim (least-is-met (beyond r) (λ p. p.col) o.start o.letters side) [
        | inl e ↦ inl e
        | inr s ↦
            let p = corner_at o s.place in
            let a = letter_at o s.place in
            let both = (and-eq-true_iff (along_row r p a) (ltb (first_side o r) p.col)).0 s.passes in
            inr (
              record { place = s.place; below = s.below; passes = both.0; value = s.value },
              omega (arith, ltb-true (first_side o r) p.col both.1, s.value),
            )
      ]

  module _ (r : ℕ) (low : lowest_corner o ≤ r) (high : r < highest_corner o) where
    first-marked : block o (first_side o r) r ≡ true
    first-marked = side-ends.first r low high

    first_fits : first_side o r < side
    first_fits = ((block-joined o h).on_chart (first_side o r) r first-marked).0

    run-begun : first_side o r < second_side o r
    run-begun = elim (second-met r) [ inl e ↦ omega (arith, first_fits) | inr (s, l) ↦ l ]

    run-to : (d : ℕ) → first_side o r + d < second_side o r → block o (first_side o r + d) r ≡ true
    run-to zero l = let e : first_side o r + 0 ≡ first_side o r = omega arith in rw e first-marked
    run-to (suc d) l =
        let e : first_side o r + suc d ≡ suc (first_side o r + d) = omega arith in
        ap (λ (c : ℕ). block o c r) e
        ∙ goes_on (first_side o r + d) r (run-to d (omega arith)) (λ s. omega (arith, second-le r (suc (first_side o r + d)) s (omega arith)))

    run_at : (c : ℕ) → first_side o r ≤ c → c < second_side o r → block o c r ≡ true
    run_at c m l = let e : c ≡ first_side o r + (c - first_side o r) = omega arith in
        ap (λ (d : ℕ). block o d r) e ∙ run-to (c - first_side o r) (omega arith)

    run-ended : block o (second_side o r) r ≡ false
    run-ended = go (block o (second_side o r) r) refl
      where
        go : (a : Bool) → block o (second_side o r) r ≡ a → block o (second_side o r) r ≡ false
        go false d = d
        go true d =
            elim (second-met r) [
              | inl e ↦ absurd (omega (arith, (block-joined o h).on_chart (second_side o r) r d))
              | inr (s, l) ↦
                  let e : second_side o r ≡ suc (pred (second_side o r)) = omega arith in
                  ap (λ (c : ℕ). block o c r) e
                  ∙ stops (pred (second_side o r)) r (run_at (pred (second_side o r)) (omega arith) (omega arith)) (subst (Side o r) e s)
            ]

    pub first_run : FirstRun (block o) (first_side o) (second_side o) r
    first_run = record { begun = run-begun; run = run_at; ended = run-ended }
