-- Different corners of the chart have different numbers by rows: so a number already in the set is a corner already met.
use Rattle.std.proofs.Common.{◌≡◌, ℕ, zero, suc, ◌+◌, ◌-◌, ◌/◌, ◌<◌, ◌≤◌, true, false, List, length, sym, ap, ◌∙◌, true≢false, arith}
use native.Mathlib.Decide.{dec_lt, ℕ_discrete}
use Rattle.base.specs.Below.{first, some_below}
use Rattle.base.proofs.BelowLaws.{first_step, first-stop, some_of}
use Rattle.chart.specs.declared.Point.{Point}
use Rattle.chart.specs.Outline.{Outline}
use Rattle.lattice.specs.Chart.{same_point, corner_at, size}
use Rattle.lattice.specs.Refusals.{meets, touching_place}
use Rattle.lattice.proofs.WalkLaws.{same-point-self, not-same-point, absent-first, OnChart}
use Rattle.flags.specs.parts.Flags.{no_numbers, is_set, with_number}
use Rattle.flags.proofs.FlagLaws.{none-length, none-set, with-length, with-here, with-other}
use Rattle.survey_walk.specs.parts.Numbers.{row_number}
use Rattle.survey_walk.proofs.CheckLaws.{first-zero}
use Rattle.survey_walk.proofs.NumberLaws.{row-injective}

module _ (o : Outline) where
  -- The number in the set of the corner at a place
  abbrev number_at : ℕ → ℕ
  number_at j = row_number (corner_at o j) j / 65536

  -- The numbers in the set are those of the corners before place i, and no letter up to the last of them met a corner
  pub record Passed (i : ℕ) (met : List ℕ) : Type 0 where
    pub words : length met ≡ 2048
    pub here : (j : ℕ) → j < i → is_set met (number_at j) ≡ true
    pub only : (k : ℕ) → is_set met k ≡ true → (j : ℕ) × (j < i) × (number_at j ≡ k)
    pub none : first (meets o) (i - 1) ≡ i - 1

  pub passed_start : Passed 0 no_numbers
  passed_start =
      record {
        words = none-length;
        here = λ j h. absurd (omega arith);
        only = λ k h. absurd (true≢false (sym h ∙ none-set k));
        none = first-zero (meets o);
      }

  module _ {i : ℕ} {met : List ℕ} (t : Passed i met) (chart : (j : ℕ) → j ≤ i → OnChart (corner_at o j)) (small : i < 65536) where
    below : number_at i < 65536
    below = let h = chart i (omega arith) in omega (arith, h.col, h.row)

    same-corner : (j : ℕ) → j ≤ i → number_at j ≡ number_at i → corner_at o j ≡ corner_at o i
    same-corner j l e = row-injective (corner_at o j) (corner_at o i) j i (chart j l) (chart i (omega arith)) (omega arith) small e

    -- A corner in the set was met before
    pub met-again : is_set met (number_at i) ≡ true → (0 < i) × (i < size o → i - 1 ≡ touching_place o)
    unfolding touching_place meets
    met-again h =
        let (j, l, e) = t.only (number_at i) h in
        (omega arith, go i t j l (same-corner j (omega arith) e))
      where
        go : (i : ℕ) → Passed i met → (j : ℕ) → j < i → corner_at o j ≡ corner_at o i → i < size o → i - 1 ≡ touching_place o
        go zero t j l e n = absurd (omega arith)
        go (suc i) t j l e n =
            let found : meets o i ≡ true =
            some_of (λ j. same_point (corner_at o j) (corner_at o (suc i))) (suc i) j l
            (same-point-self (corner_at o j) (corner_at o (suc i)) e) in
            let last : suc i - 1 ≡ i = omega arith in
            let none : first (meets o) i ≡ i = rw last at t.none in
            rw last (sym (first-stop (meets o) (size o - 1) i none found (omega arith)))

    -- One that is not is new, and is put into the set
    module _ (h : is_set met (number_at i) ≡ false) where
      pub new : (j : ℕ) → j < i → corner_at o j ≡ corner_at o i → ⊥
      new j l e =
          let same : number_at j ≡ number_at i =
          let p = chart j (omega arith) in
          let q = chart i (omega arith) in
          let c = ap (λ (x : Point). x.col) e in
          let r = ap (λ (x : Point). x.row) e in
          omega (arith, p.col, p.row, q.col, q.row) in
          true≢false (sym (t.here j l) ∙ ap (is_set met) same ∙ h)

      pub passed-next : Passed (i + 1) (with_number met (number_at i))
      unfolding meets some_below
      passed-next =
          record {
            words = with-length met (number_at i) ∙ t.words;
            here = λ j l.
                elim (ℕ_discrete (number_at j) (number_at i)) [
                  | yes d ↦ rw d (with-here met (number_at i) t.words below)
                  | no d ↦ with-other met (number_at i) t.words (number_at j) below d ∙ t.here j (earlier j l d)
                ];
            only = λ k g.
                elim (ℕ_discrete k (number_at i)) [
                  | yes d ↦ (i, omega arith, sym d)
                  | no d ↦ let (j, l, f) = t.only k (sym (with-other met (number_at i) t.words k below d) ∙ g) in (j, omega arith, f)
                ];
            none = go i t new;
          }
        where
          earlier : (j : ℕ) → j < i + 1 → (number_at j ≡ number_at i → ⊥) → j < i
          earlier j l d = elim (dec_lt j i) [ yes m ↦ m | no m ↦ absurd (d (ap number_at (omega arith))) ]

          go : (i : ℕ) → Passed i met → ((j : ℕ) → j < i → corner_at o j ≡ corner_at o i → ⊥) → first (meets o) (i + 1 - 1) ≡ i + 1 - 1
          go zero t f = let z : 0 + 1 - 1 ≡ 0 = omega arith in rw z (first-zero (meets o))
          go (suc i) t f =
              let last : suc i - 1 ≡ i = omega arith in
              let none : first (meets o) i ≡ i = rw last at t.none in
              let next : suc i + 1 - 1 ≡ i + 1 = omega arith in
              rw next
              (first_step (meets o) i none
              (absent-first (λ j. same_point (corner_at o j) (corner_at o (suc i))) (suc i) λ j l. not-same-point (corner_at o j)
              (corner_at o (suc i)) (f j l)))

  pub passed-end : {i : ℕ} {met : List ℕ} → Passed i met → i ≡ size o → touching_place o ≡ size o - 1
  unfolding touching_place
  passed-end t e = ap (λ (n : ℕ). first (meets o) (n - 1)) (sym e) ∙ t.none ∙ ap (λ (n : ℕ). n - 1) e
