-- A comparison of two taken outlines: nothing refuses their anchors and edges, and the cells of their hulls are the enclosed cells.
use Rattle.std.specs.Prelude.{Result, Ok, Err}
use Prim.Native.Nat.{ℕ, ◌*◌}
use native.Mathlib.Omega.{arith}
use mathlib.Core.Path.{◌≡◌, refl, sym, ap, ◌∙◌}
use mathlib.Core.List.{List}
use lib.ListN.{length, take}
use lib.IntN.{ℤ}
use Rattle.chart.specs.declared.Point.{Point}
use Rattle.chart.specs.declared.Nesting.{Nesting}
use Rattle.chart.specs.declared.Nesting.TheVariants.{Equal, FirstWithin, SecondWithin, Apart, Crossing}
use Rattle.chart.specs.declared.Refusal.{Refusal}
use Rattle.chart.specs.declared.Taken.{Taken}
use Rattle.chart.specs.Taken.{taken_with}
use Rattle.chart.specs.Outline.{Outline}
use Rattle.chart.specs.Fields.{verdict_fields, nesting_fields, comparison_fields}
use Rattle.chart.proofs.RefusalLaws.{refusal-number}
use Rattle.convexity.specs.Border.{HasEdges}
use Rattle.polygon.proofs.Taken.{taken-listed, taken-anchored}
use Rattle.verdict.specs.Named.{cell_of}
use Rattle.verdict.specs.Verdict.{test_of, test_fields, edges_after}
use Rattle.verdict.proofs.VerdictLaws.{taken-facts, roomy, edges-first}
use Rattle.nesting.specs.Cells.{polygon}
use Rattle.nesting.specs.Answer.{nesting}
use Rattle.nesting.proofs.Blocks.{taken-fit, blocks-iff}
use Rattle.comparison.specs.Compared.{checked_of, comparison_of}
use Rattle.comparison.specs.Outlines.{anchor_from, edges_from, BlocksNamed}
use Rattle.comparison.proofs.Cases.{checked-fit, compared-found}
use Rattle.comparison.proofs.Words.{word-once}

-- Nothing refuses the list of a taken outline
pub taken-checked : {o : Outline} {a : Point} {es : List ℤ} → HasEdges o a es → Ok tt ≡ checked_of a es
taken-checked {o} {a} {es} h = checked-fit a es (taken-listed h) (taken-anchored h) (taken-fit h).passes (taken-fit h).placed

module _ {o v : Outline} {a b : Point} {es fs : List ℤ} (h : HasEdges o a es) (k : HasEdges v b fs) where
  -- The result for two of them
  pub outlines-found : comparison_of a es b fs ≡ Ok (nesting (polygon a es) (polygon b fs))
  outlines-found = sym (compared-found a es b fs (taken-checked h) (taken-checked k))

  found_number : (n : Nesting) → (nesting_fields n).number ≡ 0
  found_number Equal = refl
  found_number FirstWithin = refl
  found_number SecondWithin = refl
  found_number Apart = refl
  found_number Crossing = refl

  pub outlines-named : BlocksNamed o v (comparison_fields (comparison_of a es b fs))
  outlines-named =
      let n = nesting (polygon a es) (polygon b fs) in
      let iff = blocks-iff h k in
      rw outlines-found (
      record {
        unrefused = found_number n;
        word = λ m. (λ e. (iff m).1 (word-once n m e), λ s. ap (λ (w : Nesting). (nesting_fields w).word) ((iff m).0 s));
      }
      )

-- ---- as the test returns them

-- A test whose number is 0 has taken the outline
record Tested (o : Outline) (buffer : List ℤ) : Type 0 where
  count : ℕ
  anchor : Point
  said : test_of o (length buffer) ≡ taken_with count anchor

tested : (o : Outline) (buffer : List ℤ) → (test_fields o (length buffer)).number ≡ 0 → Tested o buffer
unfolding test_fields
tested o buffer e = go (test_of o (length buffer)) refl e
  where
    go : (v : Result Taken Refusal) → test_of o (length buffer) ≡ v → (verdict_fields v).number ≡ 0 → Tested o buffer
    go (Ok t) s d = record { count = t.edges; anchor = t.anchor; said = s }
    go (Err f) s d = absurd (omega (arith, refusal-number f))

pub test_has : (o : Outline) (buffer : List ℤ) → (test_fields o (length buffer)).number ≡ 0
    → HasEdges o (anchor_from o buffer) (edges_from o buffer)
unfolding test_fields
test_has o buffer e =
    let t = tested o buffer e in
    let f = taken-facts o t.count t.anchor (roomy o (length buffer) t.count t.anchor t.said).verdict in
    record {
      reaches = f.reaches;
      smooth = f.undented;
      anchor = sym f.anchor ∙ ap (λ (v : Result Taken Refusal). cell_of (verdict_fields v)) (sym t.said);
      edged = sym (edges-first o buffer t.count t.anchor t.said)
          ∙ ap (λ (v : Result Taken Refusal). take (2 * (verdict_fields v).place) (edges_after o buffer)) (sym t.said);
    }

-- The claim: for two taken outlines, with the anchors and edges that their tests
-- return, the comparison is not refused, and its word is about the enclosed cells
pub taken-compared :
    (o v : Outline) (first second : List ℤ) → (test_fields o (length first)).number ≡ 0 → (test_fields v (length second)).number ≡ 0
    → BlocksNamed o v (comparison_fields (comparison_of (anchor_from o first) (edges_from o first) (anchor_from v second) (edges_from v second)))
taken-compared o v first second d e = outlines-named (test_has o first d) (test_has v second e)
