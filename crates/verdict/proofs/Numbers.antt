-- The test is a list of refusals, so its number is one of theirs or 0. With room for every taken outline it is not 10.
use Rattle.std.specs.Prelude.{Result, Ok, Err}
use Prim.Native.Nat.{ℕ, ◌-◌, ◌*◌}
use mathlib.Core.Path.{◌≡◌, refl}
use mathlib.Core.Bool.{Bool, true, false, cond}
use lib.Dec.{ltb, eqb}
use borrow.Author.Tests.{le-ltb, eqb-false}
use Rattle.chart.specs.declared.Refusal.{Refusal}
use Rattle.chart.specs.declared.Refusal.TheVariants.{Length, Start, Letter, OffChart, NotClosed, Touches, EdgeList}
use Rattle.chart.specs.declared.Taken.{Taken}
use Rattle.chart.specs.Taken.{taken_with}
use Rattle.chart.specs.Limits.{most_numbers}
use Rattle.chart.specs.Outline.{Outline}
use Rattle.chart.specs.Fields.{refusal_fields, verdict_fields}
use Rattle.lattice.specs.Chart.{size}
use Rattle.lattice.specs.Refusals.{bad_count, bad_start, letter_place, leaving_place, unclosed, touching_place}
use Rattle.convexity.specs.Clockwise.{border}
use Rattle.convexity.specs.Pieces.{back_step_piece, dent_piece}
use Rattle.verdict.specs.Verdict.{back_step_in, dent_in, first_of, checks, verdict_of, with_room, test_of, test_fields}
use Rattle.verdict.proofs.VerdictLaws.{taken-fits}

module _ (P : ℕ → Type 0) where
  -- One refusal of the list: it applies, or the rest of the list decides
  link : (b : Bool) (f : Refusal) (v : Result Taken Refusal) → (b ≡ true → P (refusal_fields f).number) → P (verdict_fields v).number
      → P (verdict_fields (cond b (Err f) v)).number
  link true f v p q = p refl
  link false f v p q = q

  room-link : (o : Outline) (v : Result Taken Refusal) → verdict_of o ≡ v → P (verdict_fields v).number
      → P (verdict_fields (with_room most_numbers v)).number
  unfolding with_room
  room-link o (Err f) e p = p
  room-link o (Ok t) e p = rw (le-ltb most_numbers (2 * t.edges) (taken-fits o t.edges t.anchor e)) p

  -- What holds for 0, for 1 to 6 and for 8 and 9 holds for the number of a verdict. 2 needs a start off the chart
  pub verdict-number : (o : Outline) → P 0 → P 1 → (bad_start o.start ≡ true → P 2) → P 3 → P 4 → P 5 → P 6 → P 8 → P 9
      → P (verdict_fields (verdict_of o)).number
  unfolding verdict_of first_of checks back_step_in dent_in
  verdict-number o p₀ p₁ p₂ p₃ p₄ p₅ p₆ p₈ p₉ =
      link (bad_count o.letters) Length _ (λ e. p₁)
      (link (bad_start o.start) Start _ p₂
      (link (ltb (letter_place o.letters) (size o)) (Letter (letter_place o.letters)) _ (λ e. p₃)
      (link (ltb (leaving_place o) (size o)) (OffChart (leaving_place o)) _ (λ e. p₄)
      (link (unclosed o) NotClosed _ (λ e. p₅)
      (link (ltb (touching_place o) (size o - 1)) (Touches (touching_place o)) _ (λ e. p₆)
      (link (ltb (back_step_piece (border o)) 4) _ _ (λ e. p₈) (link (ltb (dent_piece (border o)) 4) _ _ (λ e. p₉) p₀)))))))

  -- The same for the number of a test with room for every taken outline; with less room, for what holds for 10 as well
  pub tested-number : (o : Outline) → P 0 → P 1 → (bad_start o.start ≡ true → P 2) → P 3 → P 4 → P 5 → P 6 → P 8 → P 9
      → P (test_fields o most_numbers).number
  unfolding test_fields test_of
  tested-number o p₀ p₁ p₂ p₃ p₄ p₅ p₆ p₈ p₉ =
      room-link o (verdict_of o) refl (verdict-number o p₀ p₁ p₂ p₃ p₄ p₅ p₆ p₈ p₉)

  pub short-number : (o : Outline) (room : ℕ) → P (verdict_fields (verdict_of o)).number → P 10 → P (test_fields o room).number
  unfolding test_fields test_of with_room
  short-number o room p q = short (verdict_of o) p
    where
      short : (v : Result Taken Refusal) → P (verdict_fields v).number → P (verdict_fields (with_room room v)).number
      short (Err f) r = r
      short (Ok t) r = link (ltb room (2 * t.edges)) (EdgeList t.edges) (taken_with t.edges t.anchor) (λ e. q) r

-- 7 is no test's number (contract 5.4)
pub seven-never : (o : Outline) (room : ℕ) → (test_fields o room).number ≡ 7 → ⊥
seven-never o room =
    short-number (λ a. a ≡ 7 → ⊥) o room
    (verdict-number (λ a. a ≡ 7 → ⊥) o (other 0 refl) (other 1 refl) (λ e. other 2 refl) (other 3 refl) (other 4 refl) (other 5 refl)
    (other 6 refl) (other 8 refl) (other 9 refl))
    (other 10 refl)
  where
    other : (a : ℕ) → eqb a 7 ≡ false → a ≡ 7 → ⊥
    other a = eqb-false a 7
