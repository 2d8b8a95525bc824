-- Rows with equal ends below the top have the same three cells for every cell of the hull, because they have the same edges (Steps).
use Prim.Native.Nat.{ℕ, suc, pred, ◌-◌, ◌≤◌, ◌<◌}
use mathlib.Core.Path.{◌≡◌, refl, ap, ◌∙◌}
use native.Mathlib.Decide.{dec_lt}
use native.Mathlib.Omega.{arith}
use borrow.Author.Tests.{lt-ltb, le-ltb}
use Rattle.chart.specs.Limits.{side}
use Rattle.chart.specs.declared.Point.{Point}
use Rattle.chart.specs.Outline.{at}
use Rattle.lattice.proofs.WalkLaws.{point-eq}
use Rattle.rows.proofs.Rows.{Within}
use Rattle.completion.specs.HullRows.{hull_left, hull_right}
use Rattle.witness.specs.Three.{Three, lower_end, upper_end, first_in, last_in, from_left, from_right, from_row, three_for}
use Rattle.witness.proofs.Three.{spanned}
use Rattle.witness.proofs.Steps.{lower-same, upper-same}

three-eq : {a b d u v w : Point} → a ≡ u → b ≡ v → d ≡ w
    → ◌≡◌ {A = Three} (record { a = a; b = b; d = d }) (record { a = u; b = v; d = w })
three-eq i j k = rw (i, j, k)

-- The ends of the edge across a row, if the hull begins left of the row
record Ended (f g : ℕ → ℕ) (b t r : ℕ) : Type 0 where
  lower : lower_end f b t r < t
  upper : upper_end f b t r < t
  lower-is : lower_end f b t r ≡ lower_end g b t r
  upper_is : upper_end f b t r ≡ upper_end g b t r

ended : (f g : ℕ → ℕ) (b t : ℕ) → ((r : ℕ) → r < t → f r ≡ g r) → (r : ℕ) → b ≤ r → r < t → hull_left f b t r < f r → Ended f g b t r
unfolding upper_end
ended f g b t same r h l k =
    let s = spanned f b t r h l k in
    let two : suc b < t = omega (arith, s.from, s.rises, s.below) in
    record {
      lower = omega (arith, s.above);
      upper = s.below;
      lower-is = lower-same f g b t same two r h l;
      upper_is = upper-same f g b t same two r h l;
    }

module _ (f g p q : ℕ → ℕ) (b t : ℕ) (begins : (r : ℕ) → r < t → f r ≡ g r) (ends : (r : ℕ) → r < t → p r ≡ q r) where
  first_alike : (i j : ℕ) → i < t → i ≡ j → first_in f p b t i ≡ first_in g q b t j
  unfolding first_in
  first_alike i j l e = point-eq (at (f i) i) (at (g j) j) (begins i l ∙ ap g e) e

  last-alike : (i j : ℕ) → i < t → i ≡ j → last_in f p b t i ≡ last_in g q b t j
  unfolding last_in
  last-alike i j l e = point-eq (at (pred (p i)) i) (at (pred (q j)) j) (ap pred (ends i l ∙ ap q e)) e

  left-alike : (r : ℕ) → b ≤ r → r < t → hull_left f b t r < f r → from_left f p b t r ≡ from_left g q b t r
  unfolding from_left
  left-alike r h l k =
      let e = ended f g b t begins r h l k in
      three-eq (first_alike _ _ e.lower e.lower-is) (first_alike _ _ e.upper e.upper_is) (first_alike r r l refl)

  right-alike : (r : ℕ) → b ≤ r → r < t → hull_left (λ s. side - p s) b t r < side - p r → from_right f p b t r ≡ from_right g q b t r
  unfolding from_right
  right-alike r h l k =
      let e = ended (λ s. side - p s) (λ s. side - q s) b t (λ s m. ap (λ (c : ℕ). side - c) (ends s m)) r h l k in
      three-eq (last-alike _ _ e.lower e.lower-is) (last-alike _ _ e.upper e.upper_is) (last-alike r r l refl)

  pub three-alike : (x : Point) → Within (hull_left f b t) (hull_right p b t) b t x → three_for f p b t x ≡ three_for g q b t x
  unfolding three_for hull_right from_row
  three-alike x w =
      let c = x.col in
      let r = x.row in
      let h = w.above in
      let l = w.below in
      let i = begins r l in
      let j = ends r l in
      elim (dec_lt c (f r)) [
        | yes m ↦ rw (lt-ltb c (f r) m, lt-ltb c (g r) (omega arith)) (left-alike r h l (omega (arith, w.begun)))
        | no m ↦
            elim (dec_lt c (p r)) [
              | yes k ↦
                  rw (le-ltb c (f r) (omega arith), le-ltb c (g r) (omega arith), lt-ltb c (p r) k, lt-ltb c (q r) (omega arith))
                  (three-eq (first_alike r r l refl) (last-alike r r l refl) (last-alike r r l refl))
              | no k ↦
                  rw (
                    le-ltb c (f r) (omega arith),
                    le-ltb c (g r) (omega arith),
                    le-ltb c (p r) (omega arith),
                    le-ltb c (q r) (omega arith),
                  )
                  (right-alike r h l (omega (arith, w.before)))
            ]
      ]
