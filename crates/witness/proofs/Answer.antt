-- The reply of a witness call and its meaning. If the outline passes 1 to 6 and the buffer has six numbers, it is the search's, whose
-- theorems say the rest. Otherwise it is a refusal, whose number is not 0.
use Prim.Native.Nat.{ℕ, ◌≤◌, ◌<◌}
use native.Mathlib.Omega.{arith}
use native.Mathlib.Decide.{dec_lt}
use mathlib.Core.Path.{◌≡◌, refl, sym, ◌∙◌}
use mathlib.Core.Bool.{Bool, true, false}
use mathlib.Core.List.{List}
use lib.ListN.{length}
use borrow.Author.Tests.{lt-ltb, le-ltb}
use Rattle.std.specs.Prelude.{Some, None, Ok, Err, Option, Result}
use Rattle.chart.specs.declared.Point.{Point}
use Rattle.chart.specs.declared.Refusal.{Refusal}
use Rattle.chart.specs.declared.Refusal.TheVariants.{EdgeList}
use Rattle.chart.specs.Fields.{refusal_fields}
use Rattle.chart.proofs.RefusalLaws.{refusal-number}
use Rattle.chart.specs.Outline.{Outline}
use Rattle.lattice.specs.Refusals.{Simple}
use Rattle.survey_walk.specs.declared.Corners.{Corners}
use Rattle.survey.specs.Survey.{survey_of}
use Rattle.survey.proofs.SurveyLaws.{survey-passed, survey-simple}
use Rattle.witness.specs.Gap.{is_missing, lowest_missing, witness_of}
use Rattle.witness.specs.Witnessed.{six_numbers, shown_in, past_survey, witnessed_of, witnessed_fields, three_numbers, shown_after}
use Rattle.witness.specs.Witnessed.{cells_after}
use Rattle.witness.specs.Named.{cell_in, WitnessNamed}
use Rattle.witness.proofs.Theorem.{missing-lowest, missing-none, witness-holds}

module _ (o : Outline) where
  -- ---- the reply

  pub answer-stopped : (n : ℕ) {f : Refusal} → survey_of o ≡ Err f → Err f ≡ witnessed_of o n
  unfolding witnessed_of past_survey
  answer-stopped n e = rw e

  pub answer-passed : (n : ℕ) {c : Corners} → survey_of o ≡ Ok c → shown_in n o ≡ witnessed_of o n
  unfolding witnessed_of past_survey
  answer-passed n e = rw e

  pub shown-short : (n : ℕ) → n < six_numbers → Err (EdgeList 0) ≡ shown_in n o
  unfolding shown_in
  shown-short n l = rw (lt-ltb n six_numbers l)

  module _ (n : ℕ) (room : six_numbers ≤ n) where
    pub shown-none : is_missing o ≡ false → Ok None ≡ shown_in n o
    unfolding shown_in
    shown-none e = rw (le-ltb n six_numbers room, e)

    pub shown-found : is_missing o ≡ true → Ok (Some (lowest_missing o)) ≡ shown_in n o
    unfolding shown_in
    shown-found e = rw (le-ltb n six_numbers room, e)

  -- ---- its meaning

  module _ (l : List ℕ) where
    abbrev Named : Result (Option Point) Refusal → Type 0
    Named w = WitnessNamed o (witnessed_fields w) l (shown_after w (witness_of o) l)

    -- A refusal of an outline that does not pass 1 to 6, or whose buffer is too short
    refused : (f : Refusal) → (Simple o → six_numbers ≤ length l → ⊥) → Named (Err f)
    unfolding witnessed_fields shown_after
    refused f out =
        let some : ((refusal_fields f).number ≡ 0) → ⊥ = λ z. omega (arith, refusal-number f) in
        record {
          answers = (λ z. absurd (some z), λ p. absurd (out p.0 p.1));
          full = λ z. absurd (some z);
          lowest = λ z m. absurd (some z);
          shown = λ z m. absurd (some z);
          rest = refl;
          left_none = λ z. refl;
          left_refused = λ z. refl;
        }

    module _ (h : Simple o) (room : six_numbers ≤ length l) where
      none_named : is_missing o ≡ false → Named (Ok None)
      unfolding witnessed_fields shown_after
      none_named e =
          record {
            answers = (λ z. (h, room), λ p. refl);
            full = λ z. (λ w. missing-none o h e, λ w. refl);
            lowest = λ z m. absurd (m refl);
            shown = λ z m. absurd (m refl);
            rest = refl;
            left_none = λ z. refl;
            left_refused = λ z. refl;
          }

      found-named : is_missing o ≡ true → Named (Ok (Some (lowest_missing o)))
      unfolding witnessed_fields shown_after three_numbers cell_in
      found-named e =
          record {
            answers = (λ z. (h, room), λ p. refl);
            full = λ z. (λ w. absurd (omega (arith, w)), λ w. absurd (w (lowest_missing o) (missing-lowest o h e).missing));
            lowest = λ z m. missing-lowest o h e;
            shown = λ z m. witness-holds o h e;
            rest = refl;
            left_none = λ z. absurd (omega (arith, z));
            left_refused = λ z. absurd (z refl);
          }

      passed : Named (shown_in (length l) o)
      passed = go (is_missing o) refl
        where
          go : (a : Bool) → is_missing o ≡ a → Named (shown_in (length l) o)
          go true e = rw (← shown-found (length l) room e) (found-named e)
          go false e = rw (← shown-none (length l) room e) (none_named e)

    named_in : Named (witnessed_of o (length l))
    named_in = go (survey_of o) refl
      where
        go : (s : Result Corners Refusal) → survey_of o ≡ s → Named (witnessed_of o (length l))
        go (Ok c) e =
            rw (← answer-passed (length l) e)
            (elim (dec_lt (length l) six_numbers) [
              | yes m ↦ rw (← shown-short (length l) m) (refused (EdgeList 0) (λ h r. omega arith))
              | no m ↦ passed (survey-simple o e) (omega arith)
            ])
        go (Err f) e =
            rw (← answer-stopped (length l) e)
            (refused f (λ h r. let q = sym e ∙ sym (survey-passed o h) in let z : ◌≡◌ {A = ℕ} 0 1 = cc in absurd (omega arith)))

    pub answer-named : WitnessNamed o (witnessed_fields (witnessed_of o (length l))) l (cells_after o l)
    unfolding cells_after
    answer-named = named_in
