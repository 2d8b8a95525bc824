-- The first refusal that applies hides all later ones, so if the answer is none of 1 to
-- 8, none of these applies, and the dents and the room decide.
use Rattle.std.specs.Prelude.{Result, Ok, Err}
use Prim.Native.Nat.{ℕ, ◌-◌, ◌*◌, ◌≤◌, ◌<◌}
use native.Mathlib.Omega.{arith}
use native.Mathlib.Decide.{dec_lt}
use mathlib.Core.Path.{◌≡◌, refl, sym, ap, ◌∙◌}
use mathlib.Core.Logic.{◌⊎◌, inl, inr, ⊎_elim, ◌↔◌}
use mathlib.Core.Bool.{Bool, true, false, cond, ◌||◌, true≢false}
use mathlib.Core.List.{List, ◌++◌}
use lib.ListN.{length, take, drop}
use lib.Seq.{take_at}
use lib.Dec.{ltb, eqb, lit<, lit≤}
use lib.IntN.{ℤ}
use borrow.Author.Tests.{lt-ltb, le-ltb, ne_eqb}
use Rattle.base.proofs.BelowLaws.{first-le}
use Rattle.chart.specs.declared.Point.{Point}
use Rattle.chart.specs.Limits.{most_numbers}
use Rattle.chart.specs.declared.Refusal.{Refusal}
use Rattle.chart.specs.declared.Refusal.TheVariants.{Length, Start, Letter, OffChart, NotClosed, Touches, EdgeList}
use Rattle.chart.specs.declared.Taken.{Taken}
use Rattle.chart.specs.Taken.{taken_with}
use Rattle.chart.proofs.TakenLaws.{verdict_number, same-edges, same-anchor}
use Rattle.chart.specs.Outline.{Outline}
use Rattle.chart.specs.Fields.{refusal_fields, verdict_fields}
use Rattle.lattice.specs.Chart.{size}
use Rattle.lattice.specs.Refusals.{Simple, bad_count, bad_start, letter_place, leaving_place, unclosed, touching_place}
use Rattle.survey_walk.specs.declared.Corners.{Corners}
use Rattle.survey.specs.Survey.{survey_of}
use Rattle.survey.proofs.SurveyLaws.{survey-passed}
use Rattle.convexity.specs.Clockwise.{border, place_sent}
use Rattle.convexity.specs.Pieces.{back_step_piece, factors, dent_length, dent_piece, edges, edge_count, Reaches}
use Rattle.convexity.proofs.Bounds.{edges-length}
use Rattle.convexity.proofs.EdgeBound.{edges_fit}
use Rattle.verdict.specs.Verdict.{back_step_in, dent_in, verdict_of, with_room, test_of, buffer_after, edges_after}
use Rattle.verdict.specs.parts.Chain.{round_verdict, border_verdict, after_survey}
use Rattle.verdict.specs.Dents.{Dented, dent_of}
use Rattle.verdict.proofs.Chain.{verdict-chain}

-- ---- refusals 1 to 8

-- The number of the answer is none of 1 to 8
unfoldable pub past_eight : Result Taken Refusal → Bool
past_eight v = eqb (verdict_fields v).number 0 || ltb 8 (verdict_fields v).number

-- A name to unfold the numbers
numbers : Bool
unfolding past_eight
numbers = true

-- The answer is one of the refusals up to n
pub record Early (n : ℕ) (v : Result Taken Refusal) : Type 0 where
  pub refusal : Refusal
  pub above_zero : 0 < (refusal_fields refusal).number
  pub early : (refusal_fields refusal).number ≤ n
  pub answer : v ≡ Err refusal

-- One link in the chain of tests: its refusal is the answer, or its test failed and the rest decides
link : {R : Type 0} {n : ℕ} (b : Bool) (f : Refusal) (v : Result Taken Refusal) → 0 < (refusal_fields f).number
    → (refusal_fields f).number ≤ n
    → (b ≡ false → R ⊎ Early n v) → R ⊎ Early n (cond b (Err f) v)
link true f v s e rest = inr (record { refusal = f; above_zero = s; early = e; answer = refl })
link false f v s e rest = rest refl

-- The same link in the survey
survey-link : {R : Type 0} {n : ℕ} (b : Bool) (f : Refusal) (c : Result Corners Refusal) (v : Result Taken Refusal)
    → 0 < (refusal_fields f).number
    → (refusal_fields f).number ≤ n
    → (b ≡ false → R ⊎ Early n (after_survey c v)) → R ⊎ Early n (after_survey (cond b (Err f) c) v)
unfolding after_survey
survey-link true f c v s e rest = inr (record { refusal = f; above_zero = s; early = e; answer = refl })
survey-link false f c v s e rest = rest refl

-- A border has a piece with a dent, or all its factors are Christoffel words
pub dented-or-not : (o : Outline) → (dent_piece o < 4) ⊎ (dent_piece o ≡ 4)
unfolding dent_piece
dented-or-not o =
    elim (dec_lt (dent_piece o) 4) [
      | yes h ↦ inl h
      | no h ↦ inr (omega (arith, first-le (λ k. ltb 0 (dent_length (factors o k))) 4))
    ]

module _ (o : Outline) where
  -- The count of edges, and the first piece with a dent, of the border
  abbrev count : ℕ
  count = edge_count (border o)

  abbrev dent : ℕ
  dent = dent_piece (border o)

  -- None of 1 to 6 applies, or one of them is the answer
  pub simple-or-early : Simple o ⊎ Early 6 (verdict_of o)
  unfolding survey_of after_survey
  simple-or-early =
      rw (verdict-chain o)
      (survey-link (bad_count o.letters) Length _ _ (lit< tt) (lit≤ tt) λ counted.
      survey-link (bad_start o.start) Start _ _ (lit< tt) (lit≤ tt) λ started.
      survey-link (ltb (letter_place o.letters) (size o)) (Letter (letter_place o.letters)) _ _ (lit< tt) (lit≤ tt) λ lettered.
      survey-link (ltb (leaving_place o) (size o)) (OffChart (leaving_place o)) _ _ (lit< tt) (lit≤ tt) λ stays.
      survey-link (unclosed o) NotClosed _ _ (lit< tt) (lit≤ tt) λ closed.
      survey-link (ltb (touching_place o) (size o - 1)) (Touches (touching_place o)) _ _ (lit< tt) (lit≤ tt) λ simple.
      inl (record { counted = counted; started = started; lettered = lettered; stays = stays; closed = closed; simple = simple }))

  -- None of 1 to 8 applies, or one of them is the answer
  pub reaches-or-early : Reaches o ⊎ Early 8 (verdict_of o)
  unfolding border_verdict round_verdict back_step_in after_survey
  reaches-or-early =
      ⊎_elim straight (λ e. inr (record { refusal = e.refusal; above_zero = e.above_zero; early = omega (arith, e.early); answer = e.answer }))
      simple-or-early
    where
      straight : Simple o → Reaches o ⊎ Early 8 (verdict_of o)
      straight h =
          rw (verdict-chain o, ← survey-passed o h)
          (link (ltb (back_step_piece (border o)) 4) (back_step_in (place_sent o) (border o) (back_step_piece (border o))) _ (lit< tt) (lit≤ tt)
          λ s.
          inl (record { simple = h; straight = s }))

  -- If the answer is none of 1 to 8, none of these applies
  pub reaches_of : past_eight (verdict_of o) ≡ true → Reaches o
  unfolding past_eight
  reaches_of h = ⊎_elim (λ r. r) (λ e. absurd (early-not-past e)) reaches-or-early
    where
      early-not-past : Early 8 (verdict_of o) → ⊥
      early-not-past e =
          let n : ℕ = (refusal_fields e.refusal).number in
          true≢false
          (sym h ∙ ap past_eight e.answer
          ∙ rw (ne_eqb n 0 (omega (arith, e.above_zero)), le-ltb 8 n e.early))

  -- After 1 to 8 the dents decide
  verdict-past-eight : Reaches o → verdict_of o ≡ cond (ltb dent 4) (Err (dent_of o)) (taken_with count (border o).start)
  unfolding border_verdict round_verdict dent_of after_survey
  verdict-past-eight r = rw (verdict-chain o, ← survey-passed o r.simple, r.straight)

  pub verdict-dented : Dented o → verdict_of o ≡ Err (dent_of o)
  verdict-dented d = verdict-past-eight d.reaches ∙ rw (lt-ltb dent 4 d.dented)

  pub verdict-taken : Reaches o → dent_piece (border o) ≡ 4
      → verdict_of o ≡ taken_with (edge_count (border o)) (border o).start
  verdict-taken r u = verdict-past-eight r ∙ rw u

  -- What "taken" tells about an outline
  pub record TakenFacts (n : ℕ) (a : Point) : Type 0 where
    pub reaches : Reaches o
    pub undented : dent_piece (border o) ≡ 4
    pub count : n ≡ edge_count (border o)
    pub anchor : a ≡ (border o).start

  pub taken-facts : (n : ℕ) (a : Point) → verdict_of o ≡ taken_with n a → TakenFacts n a
  taken-facts n a e = ⊎_elim dented undented (dented-or-not (border o))
    where
      reach : Reaches o
      reach = reaches_of (ap past_eight e ∙ unfold numbers in refl)

      dented : dent_piece (border o) < 4 → TakenFacts n a
      dented h =
          let x : verdict_of o ≡ Err (dent_of o) = verdict-dented (record { reaches = reach; dented = h }) in
          let z : ◌≡◌ {A = ℕ} 0 1 = cc in
          absurd (omega arith)

      undented : dent_piece (border o) ≡ 4 → TakenFacts n a
      undented u =
          let same : verdict_of o ≡ taken_with (edge_count (border o)) (border o).start = verdict-taken reach u in
          let s = sym e ∙ same in
          record { reaches = reach; undented = u; count = same-edges s; anchor = same-anchor s }

  -- The holder has room for the edges of every taken outline
  pub taken-fits : (n : ℕ) (a : Point) → verdict_of o ≡ taken_with n a → 2 * n ≤ most_numbers
  taken-fits n a e =
      let f : TakenFacts n a = taken-facts n a e in
      let fit = edges_fit o f.reaches f.undented in
      omega (arith, f.count)

  -- The answer is 9 exactly if the outline is dented
  pub dented-of-nine : (verdict_fields (verdict_of o)).number ≡ 9 → Dented o
  unfolding numbers
  dented-of-nine nine = ⊎_elim (λ h. record { reaches = reach; dented = h }) undented (dented-or-not (border o))
    where
      reach : Reaches o
      reach = reaches_of (rw nine)

      undented : dent_piece (border o) ≡ 4 → Dented o
      undented u =
          let e = ap verdict_number (verdict-taken reach u) in absurd (omega (arith, e, nine))

  pub nine-of-dented : Dented o → (verdict_fields (verdict_of o)).number ≡ 9
  unfolding numbers dent_of dent_in
  nine-of-dented d = rw (verdict-dented d)

  pub nine-iff-dented : ((verdict_fields (verdict_of o)).number ≡ 9) ↔ Dented o
  nine-iff-dented = (dented-of-nine, nine-of-dented)

  -- A verdict's number is at most 9
  pub verdict-number : (verdict_fields (verdict_of o)).number ≤ 9
  verdict-number = ⊎_elim reached early reaches-or-early
    where
      early : Early 8 (verdict_of o) → (verdict_fields (verdict_of o)).number ≤ 9
      early e = omega (arith, e.early, ap verdict_number e.answer)

      reached : Reaches o → (verdict_fields (verdict_of o)).number ≤ 9
      reached r =
          ⊎_elim (λ h. omega (arith, nine-of-dented (record { reaches = r; dented = h })))
          (λ u. omega (arith, ap verdict_number (verdict-taken r u))) (dented-or-not (border o))

  pub refused-number : {f : Refusal} → verdict_of o ≡ Err f → (refusal_fields f).number ≤ 9
  refused-number e = omega (arith, verdict-number, ap verdict_number e)

  -- ---- the room

  pub test-refused : (m : ℕ) (f : Refusal) → verdict_of o ≡ Err f → test_of o m ≡ Err f
  unfolding test_of with_room
  test-refused m f e = rw e

  pub test_short : (m n : ℕ) (a : Point) → verdict_of o ≡ taken_with n a → m < 2 * n → test_of o m ≡ Err (EdgeList n)
  unfolding test_of with_room
  test_short m n a e h = rw (e, lt-ltb m (2 * n) h)

  pub test-taken : (m n : ℕ) (a : Point) → verdict_of o ≡ taken_with n a → 2 * n ≤ m → test_of o m ≡ taken_with n a
  unfolding test_of with_room
  test-taken m n a e h = rw (e, le-ltb m (2 * n) h)

  -- If a test takes an outline or names a dent, so does the verdict; a taken outline has room
  pub record Roomy (m n : ℕ) (a : Point) : Type 0 where
    pub verdict : verdict_of o ≡ taken_with n a
    pub room : 2 * n ≤ m

  pub roomy : (m n : ℕ) (a : Point) → test_of o m ≡ taken_with n a → Roomy m n a
  roomy m n a e = go (verdict_of o) refl
    where
      go : (v : Result Taken Refusal) → verdict_of o ≡ v → Roomy m n a
      go (Err f) x = let y = test-refused m f x in let z : ◌≡◌ {A = ℕ} 0 1 = cc in absurd (omega arith)
      go (Ok t) x =
          elim (dec_lt m (2 * t.edges)) [
            | yes h ↦ let y = test_short m t.edges t.anchor x h in let z : ◌≡◌ {A = ℕ} 0 1 = cc in absurd (omega arith)
            | no h ↦
                let y : test_of o m ≡ taken_with t.edges t.anchor = test-taken m t.edges t.anchor x (omega arith) in
                let p : t.edges ≡ n = cc in
                let q : t.anchor ≡ a = cc in
                record { verdict = cc; room = omega arith }
          ]

  -- ---- the buffer afterwards

  pub edges-after : (buffer : List ℤ) (n : ℕ) (a : Point) → test_of o (length buffer) ≡ taken_with n a →
      edges_after o buffer ≡ edges (border o) ++ drop (length (edges (border o))) buffer
  unfolding edges_after buffer_after
  edges-after buffer n a e = rw e

  pub edges-refused : (buffer : List ℤ) (f : Refusal) → test_of o (length buffer) ≡ Err f → edges_after o buffer ≡ buffer
  unfolding edges_after buffer_after
  edges-refused buffer f e = rw e

  pub edges-first : (buffer : List ℤ) (n : ℕ) (a : Point) → test_of o (length buffer) ≡ taken_with n a
      → take (2 * n) (edges_after o buffer) ≡ edges (border o)
  edges-first buffer n a e =
      let k : TakenFacts n a = taken-facts n a (roomy (length buffer) n a e).verdict in
      ap (take (2 * n)) (edges-after buffer n a e) ∙
      take_at (edges (border o)) (drop (length (edges (border o))) buffer) (2 * n) (edges-length (border o)
      ∙ ap (λ (j : ℕ). 2 * j) (sym k.count))
