-- What the contract says about completions (6.6): reply and buffer have the border of
-- the outline round the hull, and the laws of that outline do the rest.
use Rattle.std.specs.Prelude.{Result, Ok, Err}
use Prim.Native.Nat.{ℕ, ◌+◌, ◌-◌, ◌*◌, ◌≤◌, ◌<◌}
use native.Mathlib.Decide.{dec_lt}
use native.Mathlib.Omega.{arith}
use mathlib.Core.Path.{◌≡◌, refl, sym, ap, ◌∙◌, subst}
use mathlib.Core.Bool.{true}
use mathlib.Core.Logic.{◌↔◌, ⊎_elim}
use mathlib.Core.List.{List, ◌++◌}
use lib.ListN.{length, drop}
use Rattle.chart.specs.Limits.{longest}
use Rattle.chart.specs.declared.Refusal.{Refusal}
use Rattle.chart.specs.declared.Taken.{Taken}
use Rattle.chart.specs.Outline.{Outline}
use Rattle.chart.specs.Fields.{verdict_fields}
use Rattle.lattice.specs.Chart.{size}
use Rattle.lattice.specs.Hull.{InHull}
use Rattle.lattice.specs.Refusals.{Simple}
use Rattle.lattice.proofs.WalkLaws.{walked}
use Rattle.survey_walk.specs.declared.Corners.{Corners}
use Rattle.survey.specs.Survey.{survey_of}
use Rattle.survey.proofs.SurveyLaws.{survey-simple}
use Rattle.convexity.specs.Clockwise.{border, block}
use Rattle.verdict.specs.Verdict.{verdict_of}
use Rattle.verdict.proofs.VerdictLaws.{simple-or-early}
use Rattle.completion.specs.Complete.{complete as completion_of}
use Rattle.completion.specs.Sides.{lowest_corner, highest_corner, leftmost_corner, rightmost_corner}
use Rattle.completion.proofs.Extent.{length-border}
use Rattle.completion.proofs.Columns.{complete-count}
use Rattle.completion.proofs.Theorem.{complete-simple, complete-shorter, complete-hull, complete-holds, complete-least, complete-own-border}
use Rattle.completion_call.specs.declared.Completed.{Completed}
use Rattle.completion_call.specs.Completion.{written, completed_of, completed_fields, written_after, completion_after}
use Rattle.completion_call.specs.Named.{reply_to, replied, Completes}
use Rattle.completion_call.proofs.CompletedLaws.{stopped-number, completed-stopped, completed-short, completed-written}
use Rattle.completion_call.proofs.CompletedLaws.{border-completes, read_back}

-- A taken outline passes 1 to 6
taken-simple : (v : Outline) → (verdict_fields (verdict_of v)).number ≡ 0 → Simple v
taken-simple v e =
    ⊎_elim (λ h. h) (λ s. absurd (omega (arith, s.above_zero, e, ap (λ (u : Result Taken Refusal). (verdict_fields u).number) s.answer))) (simple-or-early v)

-- The three cases
data Case (o : Outline) (n : ℕ) : Type 0 where
  stopped : (f : Refusal) → survey_of o ≡ Err f → Case o n
  short : Simple o → n < size (border (completion_of o)) → Case o n
  roomy : Simple o → size (border (completion_of o)) ≤ n → Case o n

case-of : (o : Outline) (n : ℕ) → Case o n
case-of o n = go (survey_of o) refl
  where
    go : (s : Result Corners Refusal) → survey_of o ≡ s → Case o n
    go (Err f) e = stopped f e
    go (Ok c) e =
        elim (dec_lt n (size (border (completion_of o))))
        [ yes l ↦ short (survey-simple o e) l | no l ↦ roomy (survey-simple o e) (omega arith) ]

module _ (o : Outline) (buffer : List ℕ) where
  abbrev fields : Result Completed Refusal → ℕ
  fields c = (completed_fields c).number

  -- Number 0 means that the outline passes 1 to 6 and that there is room
  pub written-iff : ((reply_to o buffer).number ≡ 0) ↔ (Simple o × (size (border (completion_of o)) ≤ length buffer))
  unfolding completed_fields
  written-iff = (λ e. go e (case-of o (length buffer)), λ w. ap fields (completed-written o (length buffer) w.0 w.1))
    where
      go : (reply_to o buffer).number ≡ 0 → Case o (length buffer) → Simple o × (size (border (completion_of o)) ≤ length buffer)
      go e (stopped f q) = absurd (omega (arith, stopped-number o q, e, ap fields (completed-stopped o (length buffer) q)))
      go e (short h l) = absurd (omega (arith, e, ap fields (completed-short o (length buffer) h l)))
      go e (roomy h l) = (h, l)

  module _ (done : (reply_to o buffer).number ≡ 0) where
    -- The drawing passes 1 to 6
    pub drawn : Simple o
    drawn = (written-iff.0 done).0

    answered : completed_of o (length buffer) ≡ written (size (border (completion_of o))) (border (completion_of o)).start
    answered = completed-written o (length buffer) drawn (written-iff.0 done).1

    -- The reply and the buffer have the border of the outline round the hull
    pub holds-border : replied o buffer ≡ border (completion_of o)
    unfolding completion_after written_after
    holds-border =
        let after : completion_after o buffer ≡ (border (completion_of o)).letters ++ drop (size (border (completion_of o))) buffer =
        rw answered refl in
        rw (after, answered) (read_back o buffer (border (completion_of o)) _ refl)

    -- It is taken and encloses exactly the cells in the hull
    pub holds-completion : Completes o (replied o buffer)
    holds-completion = subst (Completes o) (sym holds-border) (border-completes o drawn)

    same_block : (c r : ℕ) → (block (replied o buffer) c r ≡ true) ↔ InHull (block o) (record { col = c; row = r })
    same_block c r = holds-completion.cells (record { col = c; row = r })

    -- It encloses the drawing's cells
    pub encloses-drawing : (c r : ℕ) → block o c r ≡ true → block (replied o buffer) c r ≡ true
    encloses-drawing c r e =
        (same_block c r).1 ((complete-hull o drawn (record { col = c; row = r })).0 (complete-holds o drawn c r e))

    -- It is the smallest: every taken outline that encloses the drawing's cells encloses all of its cells
    pub least :
        (v : Outline) → (verdict_fields (verdict_of v)).number ≡ 0 → ((c r : ℕ) → block o c r ≡ true → block v c r ≡ true)
        → (c r : ℕ) → block (replied o buffer) c r ≡ true → block v c r ≡ true
    least v taken part c r e =
        complete-least o drawn v (taken-simple v taken) taken part c r
        ((complete-hull o drawn (record { col = c; row = r })).1 ((same_block c r).0 e))

    -- A taken outline is completed to its own border
    pub own : (verdict_fields (verdict_of o)).number ≡ 0 → replied o buffer ≡ border o
    own taken = holds-border ∙ complete-own-border o drawn taken

    placed : (reply_to o buffer).place ≡ size (border (completion_of o))
    unfolding completed_fields
    placed = ap (λ (c : Result Completed Refusal). (completed_fields c).place) answered

    -- It has two letters for each column and for each row of the drawing
    pub letters : (reply_to o buffer).place ≡ 2 * (rightmost_corner o - leftmost_corner o) + 2 * (highest_corner o - lowest_corner o)
    letters = placed ∙ length-border (completion_of o) (complete-simple o drawn) ∙ complete-count o drawn

    -- It has no more letters than the drawing
    pub shorter : (reply_to o buffer).place ≤ size o
    shorter =
        omega (arith, placed, length-border (completion_of o) (complete-simple o drawn), complete-shorter o drawn)

  -- A buffer of 612 letters is never too short
  pub enough : longest ≤ length buffer → (reply_to o buffer).number ≡ 18 → ⊥
  unfolding completed_fields
  enough l e = go (case-of o (length buffer))
    where
      go : Case o (length buffer) → ⊥
      go (stopped f q) = omega (arith, stopped-number o q, e, ap fields (completed-stopped o (length buffer) q))
      go (short h k) = omega (arith, length-border (completion_of o) (complete-simple o h), complete-shorter o h, (walked o h).short)
      go (roomy h k) = omega (arith, e, ap fields (completed-written o (length buffer) h k))

-- Completed again, with room for its letters, it stays the same, and so does the reply
pub twice :
    (o : Outline) (buffer again : List ℕ) → (reply_to o buffer).number ≡ 0 → (reply_to o buffer).place ≤ length again
    → (reply_to (replied o buffer) again ≡ reply_to o buffer) × (replied (replied o buffer) again ≡ replied o buffer)
twice o buffer again done room =
    let v = border (completion_of o) in
    let k = border-completes o (drawn o buffer done) in
    let same : border (completion_of v) ≡ v = complete-own-border v k.simple k.taken ∙ k.west in
    let fits : size (border (completion_of v)) ≤ length again =
    omega (arith, ap (λ (u : Outline). size u) same, placed o buffer done, room) in
    let said : completed_of v (length again) ≡ completed_of o (length buffer) =
    completed-written v (length again) k.simple fits ∙ (λ i. written (size (same i)) (same i).start) ∙ sym (answered o buffer done) in
    rw (holds-border o buffer done) (ap completed_fields said, holds-border v again ((written-iff v again).1 (k.simple, fits)) ∙ same)
