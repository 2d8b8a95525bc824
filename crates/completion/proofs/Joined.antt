-- The block of an outline that passes refusals 1 to 6 is 4-connected: between its lowest and its highest row, each row shares a column with
-- the next. Consider a walk from a corner at or below the height between rows r and r + 1. It reaches that height by an up, and leaves it
-- by an up only next to a column whose two cells are both on its right. So without a shared column it never gets above that height.
use Prim.Native.Nat.{ℕ, zero, suc, ◌+◌, ◌-◌, ◌%◌, ◌≤◌, ◌<◌}
use mathlib.Core.Path.{◌≡◌, refl, sym, ap, ◌∙◌, subst}
use mathlib.Core.Bool.{Bool, true}
use mathlib.Core.Logic.{◌⊎◌, inl, inr}
use native.Mathlib.Decide.{dec_le}
use native.Mathlib.Omega.{arith}
use Rattle.chart.specs.declared.Point.{Point}
use Rattle.chart.specs.Outline.{Outline, at}
use Rattle.lattice.specs.Chart.{step, corner_at, size, letter_at, opposite}
use Rattle.lattice.specs.Enclosed.{encloses}
use Rattle.lattice.specs.Refusals.{Simple}
use Rattle.lattice.specs.Walked.{Walked}
use Rattle.lattice.proofs.WalkLaws.{point-eq, corner-zero, corner-suc, corner-all}
use Rattle.lattice.proofs.RightHand.{right_of, left_of, corner_of, no-back, clockwise-left-turn}
use Rattle.convexity.specs.Clockwise.{clockwise_form, border, block}
use Rattle.convexity.specs.Shape.{WalkFromW}
use Rattle.convexity.proofs.Extreme.{from-w-of}
use Rattle.convexity.proofs.Clockwise.{simple-form, clockwise-form}
use Rattle.convexity.proofs.AsSent.{block-from-w}
use Rattle.convexity.proofs.Levels.{In, level-enclosed, up-counted, up-marked, from-w-lowest, leaves-upwards}

-- Rows r and r + 1 have a marked cell in the same column
pub record Shared (marked : ℕ → ℕ → Bool) (r : ℕ) : Type 0 where
  pub column : ℕ
  pub lower : marked column r ≡ true
  pub upper : marked column (suc r) ≡ true

four : (a : ℕ) → a < 4 → (a ≡ 0) ⊎ ((a ≡ 1) ⊎ ((a ≡ 2) ⊎ (a ≡ 3)))
four zero l = inl refl
four (suc zero) l = inr (inl refl)
four (suc (suc zero)) l = inr (inr (inl refl))
four (suc (suc (suc zero))) l = inr (inr (inr refl))
four (suc (suc (suc (suc a)))) l = absurd (omega arith)

module _ (o : Outline) (h : WalkFromW o) (up : letter_at o 0 ≡ 1) (r : ℕ) where
  abbrev w : Walked o
  w = h.walked

  -- A letter leads to p at the height between the rows, from the left or from below
  record Arrived (p : Point) : Type 0 where
    height : p.row ≡ suc r
    place : ℕ
    below : place < size o
    there : corner_at o (suc place) ≡ p
    kind : (letter_at o place ≡ 0) ⊎ (letter_at o place ≡ 1)

  abbrev Good : Point → Type 0
  Good p = (p.row ≤ r) ⊎ Arrived p

  next-corner : (i a : ℕ) → i < size o → letter_at o i ≡ a → corner_at o (suc i) ≡ step (corner_at o i) a
  next-corner i a l e = corner-suc o i l ∙ ap (step (corner_at o i)) e

  row_is : {p q : Point} → p ≡ q → p.row ≡ q.row
  row_is e = ap (λ (x : Point). x.row) e

  col-is : {p q : Point} → p ≡ q → p.col ≡ q.col
  col-is e = ap (λ (x : Point). x.col) e

  -- The cell ahead on the right of a letter before a left turn
  ahead : (i j a : ℕ) (c s : ℕ) → i < size o → j < size o → corner_at o (suc i) ≡ corner_at o j → letter_at o i ≡ a
      → letter_at o j ≡ (letter_at o i + 1) % 4
      → corner_of (corner_at o i) a ≡ at (suc c) (suc s) → encloses o c s ≡ true
  ahead i j a c s l m e f g d =
      level-enclosed o (at c s)
      (subst (In o) (ap (corner_of (corner_at o i)) f ∙ d) (clockwise-left-turn o w 0 (from-w-lowest o h) up i j l m e g))

  -- The cell right of an up
  beside : (i c s : ℕ) → i < size o → letter_at o i ≡ 1 → corner_at o i ≡ at c s → encloses o c s ≡ true
  beside i c s l e d = subst (λ (p : Point). encloses o p.col p.row ≡ true) d (up-marked o h up i (l, e))

  go : (i : ℕ) → i < size o → Good (corner_at o i) → Shared (encloses o) r ⊎ Good (corner_at o (suc i))
  unfolding step corner_of right_of left_of opposite
  go i l (inl low) =
      elim (four (letter_at o i) (w.letter i l)) [
        | inl e ↦ inr (inl (omega (arith, row_is (next-corner i 0 l e))))
        | inr (inl e) ↦
            let d = row_is (next-corner i 1 l e) in
            elim (dec_le (corner_at o (suc i)).row r) [
              | yes m ↦ inr (inl m)
              | no m ↦ inr (inr (record { height = omega arith; place = i; below = l; there = refl; kind = inr e }))
            ]
        | inr (inr (inl e)) ↦ inr (inl (omega (arith, row_is (next-corner i 2 l e))))
        | inr (inr (inr e)) ↦ inr (inl (omega (arith, row_is (next-corner i 3 l e))))
      ]
  go i l (inr a) =
      let p = corner_at o i in
      let j = a.place in
      elim (four (letter_at o i) (w.letter i l)) [
        | inl e ↦
            let d = row_is (next-corner i 0 l e) in
            inr (inr (record { height = omega (arith, a.height); place = i; below = l; there = refl; kind = inl e }))
        | inr (inl e) ↦
            elim a.kind [
              | inl k ↦
                  let d = next-corner j 0 a.below k in
                  inl (record {
                    column = p.col;
                    lower =
                        ahead j i 0 p.col r a.below l a.there k (e ∙ sym (ap (λ (n : ℕ). (n + 1) % 4) k))
                        (point-eq (corner_of (corner_at o j) 0) (at (suc p.col) (suc r))
                        (omega (arith, col-is (sym d ∙ a.there)))
                        (omega (arith, row_is (sym d ∙ a.there), a.height)));
                    upper = beside i p.col (suc r) l e (point-eq p (at p.col (suc r)) refl a.height);
                  })
              | inr k ↦
                  let d = next-corner j 1 a.below k in
                  inl (record {
                    column = p.col;
                    lower =
                        beside j p.col r a.below k
                        (point-eq (corner_at o j) (at p.col r) (omega (arith, col-is (sym d ∙ a.there)))
                        (omega (arith, row_is (sym d ∙ a.there), a.height)));
                    upper = beside i p.col (suc r) l e (point-eq p (at p.col (suc r)) refl a.height);
                  })
            ]
        | inr (inr (inl e)) ↦
            elim a.kind [
              | inl k ↦ absurd (no-back o w j i a.below l a.there (e ∙ sym (ap opposite k)))
              | inr k ↦
                  let d = next-corner j 1 a.below k in
                  inl (record {
                    column = p.col;
                    lower =
                        beside j p.col r a.below k
                        (point-eq (corner_at o j) (at p.col r) (omega (arith, col-is (sym d ∙ a.there)))
                        (omega (arith, row_is (sym d ∙ a.there), a.height)));
                    upper =
                        ahead j i 1 p.col (suc r) a.below l a.there k (e ∙ sym (ap (λ (n : ℕ). (n + 1) % 4) k))
                        (point-eq (corner_of (corner_at o j) 1) (at (suc p.col) (suc (suc r)))
                        (omega (arith, col-is (sym d ∙ a.there)))
                        (omega (arith, row_is (sym d ∙ a.there), a.height)));
                  })
            ]
        | inr (inr (inr e)) ↦ inr (inl (omega (arith, row_is (next-corner i 3 l e), a.height)))
      ]

  -- From place k to place k + n
  onwards : (n k : ℕ) → k + n ≤ size o → Good (corner_at o k) → Shared (encloses o) r ⊎ Good (corner_at o (k + n))
  onwards zero k l g = inr (rw (let e : k + 0 ≡ k = omega arith in e) g)
  onwards (suc n) k l g =
      elim (onwards n k (omega arith) g) [
        | inl s ↦ inl s
        | inr g' ↦
            elim (go (k + n) (omega arith) g') [ inl s ↦ inl s | inr g'' ↦ inr (rw (let e : k + suc n ≡ suc (k + n) = omega arith in e) g'') ]
      ]

  reaches : (k i : ℕ) → k ≤ i → i ≤ size o → Good (corner_at o k) → Shared (encloses o) r ⊎ Good (corner_at o i)
  reaches k i l m g = let e : k + (i - k) ≡ i = omega arith in rw e at (onwards (i - k) k (omega arith) g)

  around : corner_at o (size o) ≡ corner_at o 0
  around = corner-all o ∙ w.closed ∙ sym (corner-zero o)

  everywhere : (k i : ℕ) → k ≤ size o → i ≤ size o → Good (corner_at o k) → Shared (encloses o) r ⊎ Good (corner_at o i)
  everywhere k i l m g =
      elim (reaches k (size o) l (omega arith) g) [
        | inl s ↦ inl s
        | inr g' ↦ reaches 0 i (omega arith) m (subst Good around g')
      ]

  pub shared : (c₁ r₁ c₂ r₂ : ℕ) → encloses o c₁ r₁ ≡ true → r₁ ≤ r → encloses o c₂ r₂ ≡ true → r < r₂ → Shared (encloses o) r
  unfolding step
  shared c₁ r₁ c₂ r₂ e l f m =
      let (k, a, _, b) = up-counted o c₁ r₁ e in
      let (i, c, _, d) = up-counted o c₂ r₂ f in
      elim (everywhere k (suc i) (omega (arith, a.0)) c.0 (inl (omega arith))) [
        | inl s ↦ s
        | inr (inl g) ↦ absurd (omega (arith, row_is (next-corner i 1 c.0 c.1)))
        | inr (inr g) ↦ absurd (omega (arith, g.height, row_is (next-corner i 1 c.0 c.1)))
      ]

-- For the outline as sent
pub joined :
    (o : Outline) → Simple o → (r c₁ r₁ c₂ r₂ : ℕ) → block o c₁ r₁ ≡ true → r₁ ≤ r → block o c₂ r₂ ≡ true → r < r₂ → Shared (block o) r
joined o h r c₁ r₁ c₂ r₂ e l f m =
    let s = shared (border o) (from-w-of (clockwise_form o) (simple-form o h)) (leaves-upwards (border o) (clockwise-form o h)) r c₁ r₁ c₂ r₂
    (block-from-w o h c₁ r₁ ∙ e) l (block-from-w o h c₂ r₂ ∙ f) m in
    record {
      column = s.column;
      lower = sym (block-from-w o h s.column r) ∙ s.lower;
      upper = sym (block-from-w o h s.column (suc r)) ∙ s.upper;
    }
