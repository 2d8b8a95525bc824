-- The edges of a taken outline give its own border: its anchor and edges meet none of 10, 11, 16 and 17, and their letters are its border.
-- So 18 depends on the outline's own length, which is at most 612.
use Rattle.std.specs.Prelude.{Result, Ok, Err}
use Prim.Native.Nat.{ℕ, ◌*◌, ◌≤◌, ◌<◌}
use native.Mathlib.Decide.{dec_lt}
use native.Mathlib.Omega.{arith}
use mathlib.Core.Path.{◌≡◌, refl, sym, ap, ◌∙◌}
use mathlib.Core.Logic.{◌↔◌}
use mathlib.Core.Bool.{false}
use mathlib.Core.List.{List, ◌++◌}
use lib.ListN.{length, take, drop}
use lib.IntN.{ℤ}
use Rattle.chart.specs.Limits.{longest}
use Rattle.chart.specs.declared.Point.{Point}
use Rattle.chart.specs.Outline.{Outline}
use Rattle.chart.specs.declared.Fields.{Fields}
use Rattle.chart.specs.declared.Refusal.TheVariants.{LetterBuffer}
use Rattle.chart.specs.declared.Refusal.{Refusal}
use Rattle.chart.specs.declared.Taken.{Taken}
use Rattle.chart.specs.Fields.{verdict_fields}
use Rattle.chart.proofs.RefusalLaws.{refusal-number}
use Rattle.lattice.specs.Chart.{size}
use Rattle.lattice.specs.Refusals.{Simple}
use Rattle.lattice.proofs.WalkLaws.{walked, length-rotation}
use Rattle.convexity.specs.Cut.{from_w, west_place}
use Rattle.convexity.specs.Clockwise.{clockwise_form, border}
use Rattle.convexity.specs.FromEdges.{letters_from}
use Rattle.convexity.proofs.Extreme.{corner_place-lt}
use Rattle.convexity.proofs.Clockwise.{simple-form, length-form}
use Rattle.convexity.proofs.Border.{border-form}
use Rattle.directions.specs.Increasing.{bad_directions}
use Rattle.directions.proofs.Taken.{taken-passes}
use Rattle.polygon.proofs.Taken.{taken-listed, taken-anchored}
use Rattle.verdict.specs.Verdict.{test_of, test_fields, edges_after}
use Rattle.verdict.specs.Named.{cell_of}
use Rattle.verdict.proofs.VerdictLaws.{roomy, edges-first}
use Rattle.border_model.specs.Outlined.{TakenAs}
use Rattle.border_model.specs.Traced.{traced_of, traced_fields, letters_after}
use Rattle.border_model.proofs.Outlines.{taken-has, outlined-iff}
use Rattle.border_model.proofs.TracedCases.{traced-written, traced-short}

-- The border has as many letters as were sent
border-size : (o : Outline) → Simple o → size (border o) ≡ size o
unfolding from_w west_place
border-size o h =
    let v = clockwise_form o in
    let long = (walked v (simple-form o h)).long in
    length-rotation v (west_place v) (omega (arith, corner_place-lt v 0 (omega arith))) ∙ length-form o

module _ {o : Outline} {a : Point} {es : List ℤ} (t : TakenAs o a es) where
  turned : bad_directions es ≡ false
  turned = let h = taken-has t in rw (← t.edged) (taken-passes o h.reaches h.smooth)

  letters-are : letters_from es ≡ (border o).letters
  letters-are = sym (ap (λ (v : Outline). v.letters) (border-form (taken-has t)))

  letters-size : length (letters_from es) ≡ size o
  letters-size = ap length letters-are ∙ border-size o (taken-has t).reaches.simple

  -- An outline has at most 612 letters
  size-bound : size o ≤ longest
  size-bound = (walked o (taken-has t).reaches.simple).short

  -- The reply has its count of letters, and the buffer has its border first
  pub own-letters :
      (buffer : List ℕ) → size o ≤ length buffer
      → (traced_of a es (length buffer) ≡ Ok (size o)) × (letters_after a es buffer ≡ (border o).letters ++ drop (size o) buffer)
  own-letters buffer room =
      let w =
      traced-written a es buffer (taken-listed (taken-has t)) (taken-anchored (taken-has t)) turned ((outlined-iff a es).1 (o, t))
      (omega (arith, letters-size)) in
      (sym w.answer ∙ ap Ok letters-size, sym w.letters ∙ rw (letters-are, ← letters-size, letters-are) refl)

  -- A buffer of 612 letters or more always suffices
  pub own-suffices :
      (buffer : List ℕ) → longest ≤ length buffer
      → (traced_of a es (length buffer) ≡ Ok (size o)) × (letters_after a es buffer ≡ (border o).letters ++ drop (size o) buffer)
  own-suffices buffer room = own-letters buffer (omega (arith, size-bound))

  -- With a buffer that is too short the reply is 18, and the buffer is unchanged
  pub own-short : (buffer : List ℕ) → length buffer < size o
      → (traced_of a es (length buffer) ≡ Err LetterBuffer) × (letters_after a es buffer ≡ buffer)
  own-short buffer short =
      let w =
      traced-short a es buffer (taken-listed (taken-has t)) (taken-anchored (taken-has t)) turned ((outlined-iff a es).1 (o, t))
      (omega (arith, letters-size))
      in
      (sym w.answer, sym w.letters)

  -- So the number is 18 exactly if the buffer is shorter than the outline
  pub own-short-iff : (buffer : List ℕ) → ((traced_fields (traced_of a es (length buffer))).number ≡ 18) ↔ (length buffer < size o)
  unfolding traced_fields
  own-short-iff buffer =
      elim (dec_lt (length buffer) (size o)) [
        | yes h ↦ ((λ e. h), λ g. rw (own-short buffer h).0 refl)
        | no h ↦ ((λ e. absurd (omega (arith, rw (own-letters buffer (omega arith)).0 at e))), λ g. absurd (omega arith))
      ]

-- ---- a test, and then a border of what it wrote

-- Test an outline into a buffer: if the reply is 0, the reply's cell and the edges that stand first in the buffer give its own letters
module _ (o : Outline) (buffer : List ℤ) (done : (test_fields o (length buffer)).number ≡ 0) where
  abbrev reply : Fields
  reply = test_fields o (length buffer)

  abbrev first : List ℤ
  first = take (2 * reply.place) (edges_after o buffer)

  pub tested-taken-as : TakenAs o (cell_of reply) first
  unfolding test_fields
  tested-taken-as = go (test_of o (length buffer)) refl done
    where
      go : (v : Result Taken Refusal) → test_of o (length buffer) ≡ v → (verdict_fields v).number ≡ 0
          → TakenAs o (cell_of (verdict_fields v)) (take (2 * (verdict_fields v).place) (edges_after o buffer))
      go (Err f) e n = absurd (omega (arith, n, refusal-number f))
      go (Ok t) e z =
          record {
            edges_counted = t.edges;
            taken = (roomy o (length buffer) t.edges t.anchor e).verdict;
            edged = sym (edges-first o buffer t.edges t.anchor e);
          }

  pub test-border : (letters : List ℕ) → size o ≤ length letters
      → (traced_of (cell_of reply) first (length letters) ≡ Ok (size o))
      × (letters_after (cell_of reply) first letters ≡ (border o).letters ++ drop (size o) letters)
  test-border letters room = own-letters tested-taken-as letters room
