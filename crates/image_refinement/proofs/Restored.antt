-- A restore leaves the other places and every draft, and at its place what was there, nothing, or an outline that the test takes.
use Rattle.std.specs.Prelude.{Result, Ok, Err}
use Prim.Native.Nat.{ℕ, ◌≤◌, ◌<◌}
use native.Mathlib.Omega.{arith}
use native.Mathlib.Decide.{ℕ_discrete}
use mathlib.Core.Path.{◌≡◌, refl, sym, ap, ◌∙◌}
use mathlib.Core.Bool.{Bool, true, false}
use mathlib.Core.Option.{none, some}
use mathlib.Core.List.{List, [], ◌∷◌}
use lib.ListN.{length, set}
use lib.IntN.{ℤ}
use borrow.Author.Tests.{lt-leb}
use Rattle.chart.specs.Outline.{Outline}
use Rattle.chart.specs.declared.Point.{Point}
use Rattle.chart.specs.declared.Refusal.{Refusal}
use Rattle.chart.specs.declared.Taken.{Taken}
use Rattle.chart.specs.Taken.{taken_with}
use Rattle.convexity.specs.Border.{HasEdges}
use Rattle.lattice.proofs.WalkLaws.{walked}
use Rattle.verdict.specs.Verdict.{verdict_of}
use Rattle.verdict.proofs.VerdictLaws.{taken-facts}
use Rattle.judge.specs.Judged.{judged_of}
use Rattle.judge.proofs.JudgedLaws.{judged-verdict, judged-numbers}
use Rattle.spans.specs.Spans.{spans_of}
use Rattle.border_model.proofs.Outlines.{has-taken, taken-has}
use Rattle.calls.specs.Calls.{parties, places}
use Rattle.calls.specs.declared.Answer.TheVariants.{Done}
use Rattle.images.specs.Image.{IsImage, is_image, held_in}
use Rattle.images.proofs.Images.{image-iff, image-of, image-held}
use Rattle.holder_records.specs.Work.{Work, work_edges, removed, replaced}
use Rattle.holder_records.specs.Acts.{Acted, acted}
use Rattle.holder_memory.specs.Layout.{Holder, Fits, place_word, spot}
use Rattle.holder_memory.specs.Words.{word_of, free_tag, free_slot}
use Rattle.holder_memory.proofs.Free.{tag_below, word-not-zero}
use Rattle.holder_answers.specs.Arrays.{Answered, work_in, filled, outline_prepared_by, outline_prepared, committed}
use Rattle.holder_answers.proofs.Cases.{commit-done}
use Rattle.holder_images.specs.Whole.{WorkOf}
use Rattle.holder_images.specs.Arrays.{image_prepared, prepare_image_of, restore_of}
use Rattle.holder_refinement.proofs.Sizes.{judged-size}
use Rattle.holder_refinement.proofs.Works.{Working, numbers_of, taken-working}
use Rattle.holder_refinement.proofs.Turns as Turns
use Rattle.holder_refinement.proofs.Turns.{draft_of, Turned, commit-zero}
use Rattle.image_refinement.specs.Came.{Came, same, emptied, taken}

-- ---- works of the book, and works that a taking leaves

pub working-has : (w : Work) (o : Outline) → Working w o → HasEdges o w.anchor (work_edges w)
working-has w o k = record { reaches = k.reaches; smooth = k.undented; anchor = sym k.anchor; edged = sym k.edges }

pub working-work : (w : Work) (o : Outline) → Working w o → WorkOf w o
working-work w o k = record { taken = has-taken (working-has w o k); rows = k.spans }

pub work-working : (w : Work) (o : Outline) → w.taken ≡ true → WorkOf w o → Working w o
work-working w o t k =
    let h = taken-has k.taken in
    record { taken = t; anchor = sym h.anchor; edges = sym h.edged; spans = k.rows; reaches = h.reaches; undented = h.smooth }

-- ---- one restore

-- What was at work is left, or an outline that the test takes is put to work
pub data Put (h : Holder) (p k : ℕ) (o : Outline) (x : Answered) : Type 0 where
  left : x.holder ≡ h → Put h p k o x
  put : (y : Acted) → Turned h p k x y → y.draft ≡ draft_of h p → Working y.work o → Put h p k o x

module _ (h : Holder) (fit : Fits h) (p : ℕ) (there : p < parties) (k : ℕ) (inside : k < places) where
  by-verdict : (o : Outline) (v : Result Taken Refusal) → (judged_of o).verdict ≡ v
      → Put h p k o (committed p k (outline_prepared_by h p k o (judged_of o) v))
  unfolding outline_prepared_by
  by-verdict o (Err f) e = left (rw (commit-zero h.heads p k) refl)
  by-verdict o (Ok t) e =
      let is : verdict_of o ≡ taken_with t.edges t.anchor = sym (judged-verdict o) ∙ e in
      let es : List ℤ = (judged_of o).numbers in
      let own : es ≡ numbers_of o (taken_with t.edges t.anchor) = judged-numbers o ∙ ap (numbers_of o) is in
      let h₁ : Holder = filled h (free_slot h.heads p) t.anchor es t.edges (spans_of o) in
      rw (sym (commit-done h₁.heads p k (word_of (free_tag h.heads p)) there inside
      (word-not-zero (free_tag h.heads p) (tag_below h.heads p))))
      (put (acted _ (draft_of h p) (replaced t.anchor es t.edges (spans_of o)))
      (Turns.restored h fit p there k inside t.anchor t.edges o es (judged-size o) _) refl (rw own (taken-working o t.edges t.anchor is)))

  outline-put : (o : Outline) → Put h p k o (committed p k (outline_prepared h p k o))
  outline-put o = by-verdict o (judged_of o).verdict refl

  -- What the image of an outline with these letters leaves
  data Brought (o : Outline) (l : List ℕ) (x : Answered) : Type 0 where
    bare : l ≡ [] → Turned h p k x (acted (Ok Done) (draft_of h p) (removed (work_in h p k))) → Brought o l x
    one : Put h p k o x → Brought o l x

  image-brought : (o : Outline) (l : List ℕ) → Brought o l (committed p k (image_prepared h p k o l))
  unfolding image_prepared
  image-brought o [] =
      bare refl (rw (commit-zero (set h.heads (place_word (spot p k)) 0) p k) (Turns.cleared h fit p there k inside))
  image-brought o (a ∷ l) = one (outline-put o)

  -- ---- at the place

  came-of : (bytes : List ℕ) (o : Outline) (x : Answered) → IsImage bytes o → Brought o o.letters x → Came h x.holder p k bytes
  unfolding removed
  came-of bytes o x i (bare e t) = emptied o i e (t.work none refl)
  came-of bytes o x i (one (left e)) = same e
  came-of bytes o x i (one (put y t d w)) = taken o i (working-work (work_in x.holder p k) o (t.work (some o) w))

  -- Whatever the bytes, and whatever the arrays hold
  pub restored-after : (bytes : List ℕ) → Came h (restore_of h p k bytes).holder p k bytes
  unfolding restore_of prepare_image_of
  restored-after bytes = go (is_image bytes) refl
    where
      go : (i : Bool) → is_image bytes ≡ i → Came h (restore_of h p k bytes).holder p k bytes
      go true e =
          rw (lt-leb parties p there, lt-leb places k inside, e)
          (came-of bytes (held_in bytes) _ ((image-iff bytes).0 e) (image-brought (held_in bytes) (held_in bytes).letters))
      go false e = rw (lt-leb parties p there, lt-leb places k inside, e, commit-zero h.heads p k) (same refl)

  -- ---- an outline that the test takes, and an empty place

  restored-is : (bytes : List ℕ) (o : Outline) → IsImage bytes o
      → restore_of h p k bytes ≡ committed p k (image_prepared h p k o o.letters)
  unfolding restore_of prepare_image_of
  restored-is bytes o i =
      rw (lt-leb parties p there, lt-leb places k inside, image-of bytes o i)
      (ap (λ (x : Outline). committed p k (image_prepared h p k x x.letters)) (image-held i))

  work-put : (o : Outline) (n : ℕ) (a : Point) (v : Result Taken Refusal) → (judged_of o).verdict ≡ v → v ≡ taken_with n a
      → Working (work_in (committed p k (outline_prepared_by h p k o (judged_of o) v)).holder p k) o
  unfolding outline_prepared_by
  work-put o n a (Err f) e t = let z : ◌≡◌ {A = ℕ} 0 1 = cc in absurd (omega (arith, z))
  work-put o n a (Ok u) e t =
      let is : verdict_of o ≡ taken_with u.edges u.anchor = sym (judged-verdict o) ∙ e in
      let es : List ℤ = (judged_of o).numbers in
      let own : es ≡ numbers_of o (taken_with u.edges u.anchor) = judged-numbers o ∙ ap (numbers_of o) is in
      let h₁ : Holder = filled h (free_slot h.heads p) u.anchor es u.edges (spans_of o) in
      rw (sym (commit-done h₁.heads p k (word_of (free_tag h.heads p)) there inside
      (word-not-zero (free_tag h.heads p) (tag_below h.heads p))))
      ((Turns.restored h fit p there k inside u.anchor u.edges o es (judged-size o) (Ok Done)).work (some o)
      (rw own (taken-working o u.edges u.anchor is)))

  pub restored-taken : (bytes : List ℕ) (o : Outline) → IsImage bytes o → (n : ℕ) (a : Point) → verdict_of o ≡ taken_with n a
      → Working (work_in (restore_of h p k bytes).holder p k) o
  restored-taken bytes o i n a e =
      rw (restored-is bytes o i) (go o.letters (walked o (taken-facts o n a e).reaches.simple).long)
    where
      go : (l : List ℕ) → 4 ≤ length l → Working (work_in (committed p k (image_prepared h p k o l)).holder p k) o
      go [] m = absurd (omega arith)
      go (x ∷ l) m = unfold image_prepared in work-put o n a (judged_of o).verdict refl (judged-verdict o ∙ e)

  pub restored-empty : (bytes : List ℕ) (o : Outline) → IsImage bytes o → o.letters ≡ []
      → (work_in (restore_of h p k bytes).holder p k).taken ≡ false
  unfolding image_prepared removed
  restored-empty bytes o i e =
      rw (restored-is bytes o i, e, commit-zero (set h.heads (place_word (spot p k)) 0) p k)
      ((Turns.cleared h fit p there k inside).work none refl)

  -- ---- elsewhere

  abbrev Else : Holder → Type 0
  Else n = ((q j : ℕ) → q < parties → j < places → (spot q j ≡ spot p k → ⊥) → work_in n q j ≡ work_in h q j)
      × ((q : ℕ) → q < parties → draft_of n q ≡ draft_of h q)

  turned-else : (x : Answered) (y : Acted) → Turned h p k x y → y.draft ≡ draft_of h p → Else x.holder
  turned-else x y t d = (t.works, drafts)
    where
      drafts : (q : ℕ) → q < parties → draft_of x.holder q ≡ draft_of h q
      drafts q l = elim (ℕ_discrete q p) [ yes e ↦ rw e (t.draft ∙ d) | no e ↦ t.drafts q l e ]

  else-of : (o : Outline) (l : List ℕ) (x : Answered) → Brought o l x → Else x.holder
  else-of o l x (bare e t) = turned-else x _ t refl
  else-of o l x (one (left e)) = rw e (λ q j b i d. refl, λ q b. refl)
  else-of o l x (one (put y t d w)) = turned-else x y t d

  -- Every other place of both parties and every draft is as it was
  pub restored-else : (bytes : List ℕ) → Else (restore_of h p k bytes).holder
  unfolding restore_of prepare_image_of
  restored-else bytes = go (is_image bytes) refl
    where
      go : (i : Bool) → is_image bytes ≡ i → Else (restore_of h p k bytes).holder
      go true e =
          rw (lt-leb parties p there, lt-leb places k inside, e)
          (else-of (held_in bytes) (held_in bytes).letters _ (image-brought (held_in bytes) (held_in bytes).letters))
      go false e = rw (lt-leb parties p there, lt-leb places k inside, e, commit-zero h.heads p k) (λ q j b i d. refl, λ q b. refl)
