-- The reply and the buffer afterwards, case by case as the definition has them (witness/proofs/Answer.antt).
use Prim.Native.Nat.{ℕ, ◌≤◌, ◌<◌}
use mathlib.Core.Path.{◌≡◌, refl, sym, ap, ◌∙◌}
use mathlib.Core.List.{List, ◌++◌}
use lib.ListN.{length, drop}
use Rattle.std.specs.Prelude.{Some, None, Ok, Err, Option, Result}
use Rattle.chart.specs.declared.Point.{Point}
use Rattle.chart.specs.declared.Refusal.{Refusal}
use Rattle.chart.specs.declared.Refusal.TheVariants.{EdgeList}
use Rattle.chart.specs.Outline.{Outline}
use Rattle.survey_walk.specs.declared.Corners.{Corners}
use Rattle.survey.specs.Survey.{survey_of}
use Rattle.witness.specs.Three.{Three}
use Rattle.witness.specs.Gap.{witness_of}
use Rattle.witness.specs.Witnessed.{six_numbers, shown_in, witnessed_of, witnessed_fields, three_numbers, shown_after, cells_after}
use Rattle.witness.specs.Named.{WitnessNamed}
use Rattle.witness.proofs.Answer.{answer-stopped, answer-passed, shown-short, shown-none, shown-found, answer-named}
use Rattle.witness_search.specs.declared.Shown.{Shown}
use Rattle.witness_search.specs.parts.Answers.{Finds}

module _ (o : Outline) (l : List ℕ) where
  -- For an outline that passes 1 to 6
  abbrev pub Shows : Result (Option Point) Refusal → List ℕ → Type 0
  Shows r after = (r ≡ shown_in (length l) o) × (after ≡ shown_after (shown_in (length l) o) (witness_of o) l)

  shows : {r : Result (Option Point) Refusal} {after : List ℕ} → r ≡ shown_in (length l) o → after ≡ shown_after r (witness_of o) l → Shows r after
  shows e d = (e, d ∙ ap (λ (w : Result (Option Point) Refusal). shown_after w (witness_of o) l) e)

  pub short-shown : length l < six_numbers → Shows (Err (EdgeList 0)) l
  unfolding shown_after
  short-shown m = shows (shown-short o (length l) m) refl

  module _ (room : six_numbers ≤ length l) where
    pub none-shown : Finds o None → Shows (Ok None) l
    unfolding shown_after
    none-shown e = shows (shown-none o (length l) room e) refl

    pub found-shown : (s : Shown) → Finds o (Some s) → {after : List ℕ}
        → after ≡ three_numbers (record { a = s.a; b = s.b; d = s.d }) ++ drop six_numbers l → Shows (Ok (Some s.cell)) after
    unfolding shown_after
    found-shown s f p =
        shows (ap (λ (y : Point). Ok (Some y)) f.lowest ∙ shown-found o (length l) room f.missing)
        (p ∙ ap (λ (w : Three). three_numbers w ++ drop six_numbers l) (sym f.three))

  -- The whole call
  abbrev pub Answers : Result (Option Point) Refusal → List ℕ → Type 0
  Answers r after = (r ≡ witnessed_of o (length l)) × ((after ≡ cells_after o l) × WitnessNamed o (witnessed_fields r) l after)

  answers : {r : Result (Option Point) Refusal} {after : List ℕ} → r ≡ witnessed_of o (length l) → after ≡ shown_after (witnessed_of o (length l)) (witness_of o) l
      → Answers r after
  unfolding cells_after
  answers e d = (e, (d, rw (e, d) (answer-named o l)))

  pub stopped-answers : {f : Refusal} → survey_of o ≡ Err f → Answers (Err f) l
  unfolding shown_after
  stopped-answers e = let q = answer-stopped o (length l) e in answers q (ap (λ (w : Result (Option Point) Refusal). shown_after w (witness_of o) l) q)

  pub passed-answers : {c : Corners} → survey_of o ≡ Ok c → {r : Result (Option Point) Refusal} {after : List ℕ} → Shows r after → Answers r after
  passed-answers e s =
      let q = answer-passed o (length l) e in answers (s.0 ∙ q) (s.1 ∙ ap (λ (w : Result (Option Point) Refusal). shown_after w (witness_of o) l) q)
