-- The cases of a completion, and what each says about cells: 1 to 6 refuse it, the buffer is too short, or the letters are written.
use Rattle.std.specs.Prelude.{Result, Ok, Err}
use Prim.Native.Nat.{ℕ, ◌≤◌, ◌<◌}
use native.Mathlib.Omega.{arith}
use mathlib.Core.Path.{◌≡◌, refl, sym, ap, ◌∙◌, subst}
use mathlib.Core.Bool.{Bool, true, false, cond, true≢false}
use mathlib.Core.List.{List, ◌++◌}
use lib.ListN.{length, take, drop}
use lib.Seq.{take_at}
use lib.IntN.{ℤ}
use borrow.Author.Tests.{lt-ltb, le-ltb}
use Rattle.chart.specs.Limits.{most_numbers}
use Rattle.chart.specs.declared.Point.{Point}
use Rattle.chart.specs.declared.Refusal.{Refusal}
use Rattle.chart.specs.declared.Refusal.TheVariants.{LetterBuffer}
use Rattle.chart.specs.declared.Taken.{Taken}
use Rattle.chart.specs.Outline.{Outline, outline, at}
use Rattle.chart.specs.Fields.{refusal_fields, verdict_fields}
use Rattle.chart.proofs.RefusalLaws.{refusal-number}
use Rattle.lattice.specs.Chart.{size}
use Rattle.lattice.specs.Refusals.{Simple}
use Rattle.survey_walk.specs.declared.Corners.{Corners}
use Rattle.survey.specs.Survey.{survey_of}
use Rattle.survey.proofs.SurveyLaws.{survey-passed}
use Rattle.rows.specs.parts.Rows.{rows}
use Rattle.convexity.specs.Clockwise.{border, block}
use Rattle.convexity.specs.SameBlock.{SameCells}
use Rattle.convexity.specs.FromEdges.{letters_from}
use Rattle.convexity.specs.Pieces.{edges}
use Rattle.convexity.proofs.SameBlock.{same-from-w-iff}
use Rattle.verdict.specs.Verdict.{verdict_of, test_of, test_fields}
use Rattle.verdict.specs.parts.Chain.{after_survey as verdict_after}
use Rattle.verdict.proofs.Chain.{verdict-chain}
use Rattle.verdict.proofs.VerdictLaws.{test-taken, taken-fits, refused-number}
use Rattle.border_model.specs.Named.{BorderOf}
use Rattle.border_model.proofs.Outlines.{taken-has, outlined-iff, outlined-border}
use Rattle.completion.specs.Complete.{complete as completion_of}
use Rattle.completion.specs.parts.Written.{written_from}
use Rattle.completion.proofs.Theorem.{complete-simple, complete-hull}
use Rattle.completion.proofs.Answers.{complete-taken-as}
use Rattle.completion_call.specs.Completion.{written, letters_in, after_survey, completed_of, completed_fields, written_after, completion_after}
use Rattle.completion_call.specs.Named.{outline_in, Completes}
use Rattle.completion_call.specs.parts.Answers.{Answers}
use Rattle.completion_call.proofs.HullEnds.{HullOf}

-- The number of a refusal of 1 to 6
pub stopped-number : (o : Outline) {f : Refusal} → survey_of o ≡ Err f → (0 < (refusal_fields f).number) × ((refusal_fields f).number < 18)
unfolding verdict_after
stopped-number o {f} e = (refusal-number f, omega (arith, refused-number o {f = f} (verdict-chain o ∙ rw e)))

-- ---- the cases

letters-short : (n : ℕ) (v : Outline) → n < size v → letters_in n v ≡ Err LetterBuffer
unfolding letters_in
letters-short n v l = ap (λ (b : Bool). cond b (Err LetterBuffer) (written (size v) v.start)) (lt-ltb n (size v) l)

letters-written : (n : ℕ) (v : Outline) → size v ≤ n → letters_in n v ≡ written (size v) v.start
unfolding letters_in
letters-written n v l = ap (λ (b : Bool). cond b (Err LetterBuffer) (written (size v) v.start)) (le-ltb n (size v) l)

module _ (o : Outline) (n : ℕ) where
  pub completed-stopped : {f : Refusal} → survey_of o ≡ Err f → completed_of o n ≡ Err f
  unfolding completed_of after_survey
  completed-stopped e = rw e refl

  past-survey : Simple o → completed_of o n ≡ letters_in n (border (completion_of o))
  unfolding completed_of after_survey
  past-survey h = ap (λ (s : Result Corners Refusal). after_survey s (letters_in n (border (completion_of o)))) (sym (survey-passed o h))

  pub completed-short : Simple o → n < size (border (completion_of o)) → completed_of o n ≡ Err LetterBuffer
  completed-short h l = past-survey h ∙ letters-short n (border (completion_of o)) l

  pub completed-written : Simple o → size (border (completion_of o)) ≤ n
      → completed_of o n ≡ written (size (border (completion_of o))) (border (completion_of o)).start
  completed-written h l = past-survey h ∙ letters-written n (border (completion_of o)) l

-- ---- the border of a completion

-- A taken outline is taken if there is room for the edges of every taken outline
pub tested-taken : (v : Outline) (m : ℕ) → most_numbers ≤ m → (verdict_fields (verdict_of v)).number ≡ 0 → (test_fields v m).number ≡ 0
unfolding test_fields
tested-taken v m l e = go (verdict_of v) refl
  where
    go : (z : Result Taken Refusal) → verdict_of v ≡ z → (verdict_fields (test_of v m)).number ≡ 0
    go (Ok t) q =
        ap (λ (u : Result Taken Refusal). (verdict_fields u).number) (test-taken v m t.edges t.anchor q (omega (arith, taken-fits v t.edges t.anchor q)))
    go (Err f) q = absurd (omega (arith, refusal-number f, ap (λ (u : Result Taken Refusal). (verdict_fields u).number) (sym q), e))

module _ (o : Outline) (h : Simple o) where
  abbrev anchor : Point
  anchor = (border (completion_of o)).start

  abbrev sides : List ℤ
  sides = edges (border (completion_of o))

  written_back : BorderOf (border (completion_of o)).start (edges (border (completion_of o))) (letters_from (edges (border (completion_of o))))
  written_back = outlined-border anchor sides ((outlined-iff anchor sides).1 (completion_of o, complete-taken-as o h))

  -- It is the outline that its anchor and edges give
  is-written : border (completion_of o) ≡ outline (border (completion_of o)).start (letters_from (edges (border (completion_of o))))
  is-written = written_back.own (completion_of o) (complete-taken-as o h)

  whole : Completes o (outline (border (completion_of o)).start (letters_from (edges (border (completion_of o)))))
  whole =
      let v = outline anchor (letters_from sides) in
      let simple = (taken-has written_back.taken).reaches.simple in
      let west = written_back.own v written_back.taken in
      let taken = ap (λ (u : Result Taken Refusal). (verdict_fields u).number) written_back.taken.taken in
      let same : SameCells v (completion_of o) =
      (same-from-w-iff v (completion_of o) simple (complete-simple o h)).1 (west ∙ sym is-written) in
      record {
        simple = simple;
        taken = taken;
        tested = λ m l. tested-taken v m l taken;
        west = west;
        cells =
            λ x. (λ e. (complete-hull o h x).0 (sym (same x.col x.row) ∙ e), λ k. same x.col x.row ∙ (complete-hull o h x).1 k);
      }

  pub border-completes : Completes o (border (completion_of o))
  border-completes = subst (Completes o) (sym is-written) whole

-- ---- the completion is one

same_bool : (s t : Bool) → (s ≡ true → t ≡ true) → (t ≡ true → s ≡ true) → s ≡ t
same_bool true t to from = sym (to refl)
same_bool false true to from = from refl
same_bool false false to from = refl

-- Two outlines with the cells of the hull have the same border, and each is its own
pub completes-once : (o v u : Outline) → Completes o v → Completes o u → v ≡ u
completes-once o v u a b =
    let same : SameCells v u = λ c r. same_bool (block v c r) (block u c r)
    (λ e. (b.cells (record { col = c; row = r })).1 ((a.cells (record { col = c; row = r })).0 e))
    (λ e. (a.cells (record { col = c; row = r })).1 ((b.cells (record { col = c; row = r })).0 e)) in
    sym a.west ∙ (same-from-w-iff v u a.simple b.simple).0 same ∙ b.west

-- So it has the length of the border round the hull
completes-size : (o : Outline) → Simple o → (v : Outline) → Completes o v → size v ≡ size (border (completion_of o))
completes-size o h v c = ap (λ (u : Outline). size u) (completes-once o v (border (completion_of o)) c (border-completes o h))

-- ---- what a reply says

-- Refused by 1 to 6
stopped-simple : (o : Outline) {f : Refusal} → survey_of o ≡ Err f → Simple o → ⊥
stopped-simple o {f} e h = true≢false (ap passes (survey-passed o h ∙ e))
  where
    passes : Result Corners Refusal → Bool
    passes (Ok c) = true
    passes (Err g) = false

module _ (o : Outline) (buffer : List ℕ) where
  pub stopped-answers : {f : Refusal} → survey_of o ≡ Err f → Answers o buffer buffer (Err f)
  unfolding completion_after written_after completed_fields
  stopped-answers {f} e =
      let said = completed-stopped o (length buffer) e in
      let n = stopped-number o e in
      record {
        answer = sym said;
        letters = rw said refl;
        named =
            record {
              drawn = λ q. absurd (omega arith);
              completes = λ q. absurd (omega arith);
              fits = λ h. absurd (stopped-simple o e h);
              short = (λ q. absurd (omega arith), λ x. absurd (stopped-simple o e x.0));
              unchanged = λ q. refl;
            };
      }

  pub short-answers : Simple o → length buffer < size (border (completion_of o)) → Answers o buffer buffer (Err LetterBuffer)
  unfolding completion_after written_after completed_fields
  short-answers h l =
      let said = completed-short o (length buffer) h l in
      record {
        answer = sym said;
        letters = rw said refl;
        named =
            record {
              drawn = λ q. absurd (omega arith);
              completes = λ q. absurd (omega arith);
              fits = λ k v c m. absurd (omega (arith, completes-size o h v c));
              short = (λ q. (h, (border (completion_of o), (border-completes o h, l))), λ x. refl);
              unchanged = λ q. refl;
            };
      }

  -- The letters at the front of the buffer are the outline's
  pub read_back : (v : Outline) (after : List ℕ) → after ≡ v.letters ++ drop (size v) buffer
      → outline_in (completed_fields (written (size v) v.start)) after ≡ v
  unfolding completed_fields
  read_back v after e = ap (outline v.start) (ap (take (size v)) e ∙ take_at v.letters (drop (size v) buffer) (size v) refl)

  pub written-answers :
      (after : List ℕ) → Simple o → size (border (completion_of o)) ≤ length buffer
      → after ≡ (border (completion_of o)).letters ++ drop (size (border (completion_of o))) buffer
      → Answers o buffer after (written (size (border (completion_of o))) (border (completion_of o)).start)
  unfolding completion_after written_after completed_fields
  written-answers after h l e =
      let said = completed-written o (length buffer) h l in
      record {
        answer = sym said;
        letters = e ∙ rw said refl;
        named =
            record {
              drawn = λ q. h;
              completes = λ q. subst (Completes o) (sym (read_back (border (completion_of o)) after e)) (border-completes o h);
              fits = λ k v c m. refl;
              short = (
                λ q. absurd (omega arith),
                λ x. absurd (omega (arith, completes-size o h x.1.0 x.1.1.0, x.1.1.1)),
              );
              unchanged = λ q. absurd (q refl);
            };
      }

  module _ (h : Simple o) {begins ends : List ℕ} {b t m n : ℕ} (f : HullOf o begins ends b t m n) where
    pub hull-short : length buffer < n → Answers o buffer buffer (Err LetterBuffer)
    hull-short l = short-answers h (omega (arith, f.count))

    pub hull-room : n ≤ length buffer → length (written_from (rows begins) (rows ends) b t m) ≤ length buffer
    hull-room l = omega (arith, f.count, ap (λ (v : Outline). size v) f.round)

    pub hull-answers :
        (after : List ℕ) → n ≤ length buffer
        → after ≡ written_from (rows begins) (rows ends) b t m ++ drop (length (written_from (rows begins) (rows ends) b t m)) buffer
        → Answers o buffer after (written n (at (rows begins m) m))
    hull-answers after l e =
        let w : written_from (rows begins) (rows ends) b t m ≡ (border (completion_of o)).letters =
        ap (λ (v : Outline). v.letters) (sym f.round) in
        let s : at (rows begins m) m ≡ (border (completion_of o)).start = ap (λ (v : Outline). v.start) (sym f.round) in
        subst (Answers o buffer after) (λ i. written (sym f.count i) (sym s i))
        (written-answers after h (omega (arith, f.count)) (e ∙ ap (λ (u : List ℕ). u ++ drop (length u) buffer) w))
