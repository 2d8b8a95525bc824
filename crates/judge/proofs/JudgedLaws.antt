-- The letters copied from W's place on, forward or backward, are the border, so the verdict on the copy is the verdict on the border.
use Rattle.std.specs.Prelude.{Result, Ok, Err}
use Rattle.std.proofs.Common.{Bor}
use Prim.Native.Nat.{ℕ, ◌-◌, ◌*◌, ◌≤◌, ◌<◌}
use native.Mathlib.Decide.{dec_lt}
use native.Mathlib.Omega.{arith}
use mathlib.Core.Path.{◌≡◌, refl, sym, ap, subst, ◌∙◌}
use mathlib.Core.Bool.{Bool, true, false, cond}
use mathlib.Core.List.{List}
use lib.ListN.{length, take, length-replicate}
use lib.Seq.{length-take-le}
use lib.IntN.{ℤ, pos}
use borrow.Author.Tests.{ne_eqb, le-ltb}
use Rattle.chart.specs.Limits.{longest, most_numbers}
use Rattle.chart.specs.declared.Point.{Point}
use Rattle.chart.specs.declared.Refusal.{Refusal}
use Rattle.chart.specs.declared.Taken.{Taken}
use Rattle.chart.specs.Outline.{Outline, outline}
use Rattle.lattice.specs.Chart.{corner_at, size}
use Rattle.lattice.specs.Refusals.{Simple}
use Rattle.lattice.specs.Walked.{Walked}
use Rattle.lattice.proofs.WalkLaws.{walked, outline-eq}
use Rattle.survey_walk.specs.declared.Corners.{Corners}
use Rattle.survey_walk.specs.Corners.{corners_of}
use Rattle.survey.specs.Survey.{survey_of}
use Rattle.convexity.specs.Cut.{corner_place, west_place, from_w, clockwise}
use Rattle.convexity.specs.Clockwise.{reversed, clockwise_form, border, sent_from, place_sent}
use Rattle.convexity.specs.Pieces.{edges}
use Rattle.convexity.proofs.Clockwise.{west-first, west-place-first, west-place-later, form-clockwise, form-backward, length-form}
use Rattle.convexity.proofs.Clockwise.{simple-form, clockwise-form, from-w-form}
use Rattle.convexity.proofs.Corners.{corner-form}
use Rattle.verdict.specs.Verdict.{verdict_of, with_room, test_of, buffer_after, edges_after}
use Rattle.verdict.specs.parts.Chain.{round_verdict, border_verdict, after_survey}
use Rattle.verdict.proofs.Chain.{verdict-chain}
use Rattle.verdict.proofs.VerdictLaws.{taken-fits}
use Rattle.cut_places.specs.declared.Cuts.{Cuts}
use Rattle.cut_places.specs.parts.Cuts.{CutsOf}
use Rattle.judge.specs.declared.Round.{Round}
use Rattle.clockwise_copy.specs.parts.ClockwiseCopy.{read_round, read_place}
use Rattle.judge.specs.parts.Round.{RoundOf}
use Rattle.judge.specs.Judged.{zeros, judged_of}
use Rattle.judge.specs.parts.Outcome.{Outcome, OutcomeOfRound, OutcomeOfBorder}
use Rattle.judge.proofs.PieceLaws.{from-west, outcome-refused}

-- What the code knows once the letters are copied: the corners, which way they are read, the cut places, W's place v in the clockwise form,
-- the buffer
pub record Copied (o : Outline) (f : Corners) (cuts : Cuts) (v : ℕ) (buffer : List ℕ) : Type 0 where
  pub simple : Simple o
  pub corners : f ≡ corners_of o
  pub cuts-of : CutsOf o cuts
  pub place : v ≡ read_place cuts.forward (size o) f.west
  pub letters : f.west ≤ size o → size o ≤ longest → take (size o) buffer ≡ read_round cuts.forward f.west o.letters
  pub sized : length buffer ≡ longest

module _ {o : Outline} {f : Corners} {cuts : Cuts} {v : ℕ} {buffer : List ℕ} (h : Copied o f cuts v buffer) where
  abbrev found : ℕ
  found = f.west

  abbrev forward : Bool
  forward = cuts.forward

  abbrev p : Point
  p = f.corner

  d : Walked o
  d = walked o h.simple

  pub letters-fit : size o ≤ length buffer
  letters-fit = omega (arith, h.sized, d.short)

  found-is : found ≡ west_place o
  unfolding west_place corners_of
  found-is = ap (λ (c : Corners). c.west) h.corners

  found_lt : found < size o
  found_lt = omega (arith, found-is, (west-first o d).below)

  corner-is : p ≡ corner_at o (west_place o)
  unfolding west_place corners_of
  corner-is = ap (λ (c : Corners). c.corner) h.corners

  -- The rows of S and N are those of the border
  bottom-is : f.bottom ≡ (corner_at (border o) (corner_place (border o) 3)).row
  unfolding corners_of
  bottom-is = ap (λ (c : Corners). c.bottom) h.corners ∙ ap (λ (q : Point). q.row) (sym (corner-form o h.simple 3))

  top-is : f.top ≡ (corner_at (border o) (corner_place (border o) 1)).row
  unfolding corners_of
  top-is = ap (λ (c : Corners). c.top) h.corners ∙ ap (λ (q : Point). q.row) (sym (corner-form o h.simple 1))

  way-is : forward ≡ clockwise (from_w o)
  way-is = h.cuts-of.way

  -- W's letter stands at v in the clockwise form
  place_is : v ≡ west_place (clockwise_form o)
  unfolding read_place
  place_is = go forward way-is h.place
    where
      go : (b : Bool) → b ≡ clockwise (from_w o) → v ≡ read_place b (size o) found → v ≡ west_place (clockwise_form o)
      go true e q = q ∙ found-is ∙ ap west_place (sym (form-clockwise o (sym e)))
      go false e q =
          let back : west_place (reversed o) ≡ west_place (clockwise_form o) = ap west_place (sym (form-backward o (sym e))) in
          elim (dec_lt 0 found) [
            | yes l ↦
                q ∙ rw (ne_eqb found 0 (omega arith)) (ap (λ (i : ℕ). size o - i) found-is
                ∙ sym (west-place-later o d (omega (arith, found-is))) ∙ back)
            | no l ↦
                let z : found ≡ 0 = omega arith in
                q ∙ rw z (sym (west-place-first o d (sym found-is ∙ z)) ∙ back)
          ]

  -- The buffer holds the border
  border-is : outline p (take (size o) buffer) ≡ border o
  unfolding from_w read_round
  border-is =
      outline-eq (outline p (take (size o) buffer)) (read_outline forward) (corner-is ∙ same_start forward)
      (h.letters (omega (arith, found_lt)) (omega (arith, d.short)) ∙ ap (λ (i : ℕ). read_round forward i o.letters) found-is
      ∙ same-letters forward)
      ∙ ap read_outline way-is ∙ sym (from-w-form o h.simple)
    where
      read_outline : Bool → Outline
      read_outline b = cond b (from_w o) (reversed (from_w o))

      same_start : (b : Bool) → corner_at o (west_place o) ≡ (read_outline b).start
      same_start true = refl
      same_start false = refl

      same-letters : (b : Bool) → read_round b (west_place o) o.letters ≡ (read_outline b).letters
      same-letters true = refl
      same-letters false = refl

  border-length : size (border o) ≡ size o
  border-length = ap size (sym border-is) ∙ length-take-le (size o) buffer letters-fit

  v-lt : v < size (border o)
  v-lt =
      omega (
        arith,
        place_is,
        border-length,
        length-form o,
        (west-first (clockwise_form o) (walked (clockwise_form o) (simple-form o h.simple))).below,
      )

  abbrev copied : Bor (List ℕ) → Round
  copied lent = record { letters = lent; cuts = cuts; place = v; west = p; bottom = f.bottom; top = f.top }

  ready : (lent : Bor (List ℕ)) → RoundOf (copied lent) (border o)
  ready lent =
      record {
        walk = from-west o h.simple;
        place = v-lt;
        clockwise = clockwise-form o h.simple;
        bottom = bottom-is;
        top = top-is;
        places = h.cuts-of.places;
      }

  pub copied-ready : (lent : Bor (List ℕ)) → RoundOf (copied lent) (outline p (take (size o) buffer))
  copied-ready lent = rw border-is (ready lent)

  -- 8 and 9, or taken
  pub copied-outcome : {before after : List ℤ} {r : Result Taken Refusal}
      → OutcomeOfRound forward v (outline p (take (size o) buffer)) before after r
      → OutcomeOfBorder o before after r
  unfolding border_verdict place_sent
  copied-outcome {before} {after} {r} e =
      subst (λ (place : ℕ → ℕ). Outcome (round_verdict place (border o)) (edges (border o)) before after r)
      (λ z. sent_from (way-is z) (border-length z) (place_is z))
      (subst (λ (t : Outline). OutcomeOfRound forward v t before after r) border-is e)

-- ---- the judgement

-- The verdict on an outline and its edges
abbrev OutcomeOf : Outline → List ℤ → List ℤ → Result Taken Refusal → Type 0
OutcomeOf o = Outcome (verdict_of o) (edges (border o))

module _ (o : Outline) where
  pub stopped-outcome : {f : Refusal} → survey_of o ≡ Err f → (before : List ℤ) → OutcomeOf o before before (Err f)
  unfolding after_survey
  stopped-outcome h before = outcome-refused (edges (border o)) before (rw (verdict-chain o, h) refl)

  pub passed-outcome : {c : Corners} → survey_of o ≡ Ok c → {before after : List ℤ} {r : Result Taken Refusal}
      → OutcomeOfBorder o before after r
      → OutcomeOf o before after r
  unfolding after_survey
  passed-outcome h e = rw (verdict-chain o, h) e

  pub outcome-edges : {before after : List ℤ} {r : Result Taken Refusal} → OutcomeOf o before after r → after ≡ edges_after o before
  unfolding edges_after test_of
  outcome-edges e = e.buffer

  -- A list of zeros has room for the edges of every outline
  zeros-room : (v : Result Taken Refusal) → verdict_of o ≡ v → with_room (length zeros) v ≡ v
  unfolding with_room
  zeros-room (Err f) e = refl
  zeros-room (Ok t) e =
      rw (le-ltb (length zeros) (2 * t.edges) (rw (length-replicate most_numbers (pos 0)) (taken-fits o t.edges t.anchor e)))

  pub judged-of : {r : Result Taken Refusal} {after : List ℤ} → r ≡ verdict_of o → after ≡ edges_after o zeros
      → record { verdict = r; numbers = after } ≡ judged_of o
  unfolding judged_of edges_after test_of
  judged-of v e =
      λ z. record {
        verdict = v z;
        numbers = (e ∙ ap (λ (x : Result Taken Refusal). buffer_after x (edges (border o)) zeros) (zeros-room (verdict_of o) refl)) z;
      }

  -- The two parts of a judgement
  pub judged-verdict : (judged_of o).verdict ≡ verdict_of o
  unfolding judged_of
  judged-verdict = refl

  pub judged-numbers : (judged_of o).numbers ≡ buffer_after (verdict_of o) (edges (border o)) zeros
  unfolding judged_of
  judged-numbers = refl
