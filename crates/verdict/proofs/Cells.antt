-- What a reply tells about the cells: the facts of each answer (VerdictLaws), combined with the convexity theorem for the same outline.
use Rattle.std.specs.Prelude.{Result, Ok, Err}
use Prim.Native.Nat.{ℕ, ◌*◌, ◌<◌}
use mathlib.Core.Path.{◌≡◌, refl, sym, ◌∙◌, ap}
use mathlib.Core.Logic.{⊎_elim, ◌↔◌}
use mathlib.Core.List.{List}
use lib.ListN.{length, take}
use lib.IntN.{ℤ}
use native.Mathlib.Decide.{dec_lt}
use native.Mathlib.Omega.{arith}
use Rattle.chart.specs.Limits.{side}
use Rattle.chart.specs.declared.Point.{Point}
use Rattle.chart.specs.declared.Refusal.{Refusal}
use Rattle.chart.specs.declared.Taken.{Taken}
use Rattle.chart.specs.Taken.{taken_with}
use Rattle.chart.specs.Outline.{Outline}
use Rattle.chart.specs.Fields.{verdict_fields}
use Rattle.chart.proofs.TakenLaws.{verdict_number}
use Rattle.lattice.specs.Hull.{Missing, LowestMissing}
use Rattle.convexity.specs.Clockwise.{border, block}
use Rattle.convexity.specs.Pieces.{Reaches, IsAnchor, edges}
use Rattle.convexity.specs.Inside.{inside_edges}
use Rattle.convexity.proofs.AsSent.{edges-answer-sent, dented-iff-missing, named-lowest, west-anchor}
use Rattle.verdict.specs.Verdict.{cell_found, dent_in, verdict_of, test_of, test_fields, edges_after}
use Rattle.verdict.specs.Dents.{Dented, dent_of}
use Rattle.verdict.specs.Named.{cell_of, CellNamed}
use Rattle.verdict.proofs.VerdictLaws.{past_eight, reaches_of, dented-or-not, TakenFacts, taken-facts, verdict-dented, verdict-taken}
use Rattle.verdict.proofs.VerdictLaws.{dented-of-nine, nine-of-dented, nine-iff-dented, roomy, test-refused, test_short, test-taken}
use Rattle.verdict.proofs.VerdictLaws.{edges-first}

module _ (o : Outline) where
  -- An outline that passes refusals 1 to 8 is refused by 9 exactly if a cell is missing
  pub nine-iff-missing : Reaches o → ((verdict_fields (verdict_of o)).number ≡ 9) ↔ ((x : Point) × Missing (block o) x)
  nine-iff-missing r =
      let nine = nine-iff-dented o in
      let dent = dented-iff-missing o r in
      (λ e. dent.0 (nine.0 e).dented, λ x. nine.1 (record { reaches = r; dented = dent.1 x }))

  -- The same of a test, whatever its buffer
  pub test-nine-missing : (m : ℕ) → Reaches o → ((test_fields o m).number ≡ 9) ↔ ((x : Point) × Missing (block o) x)
  unfolding test_fields
  test-nine-missing m r =
      let nine = nine-iff-missing r in
      (λ e. nine.0 (judged (verdict_of o) refl e), λ x. tested (verdict_of o) refl (nine.1 x))
    where
      judged : (v : Result Taken Refusal) → verdict_of o ≡ v → (verdict_fields (test_of o m)).number ≡ 9
          → (verdict_fields (verdict_of o)).number ≡ 9
      judged (Err f) e n = ap verdict_number (e ∙ sym (test-refused o m f e)) ∙ n
      judged (Ok t) e n =
          elim (dec_lt m (2 * t.edges)) [
            | yes h ↦ absurd (omega (arith, n, ap verdict_number (test_short o m t.edges t.anchor e h)))
            | no h ↦ absurd (omega (arith, n, ap verdict_number (test-taken o m t.edges t.anchor e (omega arith))))
          ]

      tested : (v : Result Taken Refusal) → verdict_of o ≡ v → (verdict_fields (verdict_of o)).number ≡ 9
          → (verdict_fields (test_of o m)).number ≡ 9
      tested (Err f) e n = ap verdict_number (test-refused o m f e ∙ sym e) ∙ n
      tested (Ok t) e n = absurd (omega (arith, n, ap verdict_number e))

  -- The cell in the reply: the lowest missing one if refused by 9, and the anchor if the outline is taken
  pub verdict-named : CellNamed o (verdict_fields (verdict_of o))
  unfolding past_eight dent_of dent_in cell_found
  verdict-named = record { anchor = anchor; missing = missing }
    where
      anchor : (verdict_fields (verdict_of o)).number ≡ 0 → IsAnchor (block o) (cell_of (verdict_fields (verdict_of o)))
      anchor e =
          let r : Reaches o = reaches_of o (rw e) in
          ⊎_elim
          (λ h. absurd (omega (arith, e, nine-of-dented o (record { reaches = r; dented = h }))))
          (λ u. rw (verdict-taken o r u) (west-anchor o r))
          (dented-or-not (border o))

      missing : (verdict_fields (verdict_of o)).number ≡ 9 → LowestMissing (block o) (cell_of (verdict_fields (verdict_of o)))
      missing e =
          let d : Dented o = dented-of-nine o e in
          rw (verdict-dented o d) (named-lowest o d.reaches d.dented)

  -- The same for the reply of a test: 10 names no cell
  pub test-named : (m : ℕ) → CellNamed o (test_fields o m)
  unfolding test_fields
  test-named m = go (verdict_of o) refl
    where
      same : test_of o m ≡ verdict_of o → CellNamed o (verdict_fields (test_of o m))
      same e = rw e verdict-named

      go : (v : Result Taken Refusal) → verdict_of o ≡ v → CellNamed o (verdict_fields (test_of o m))
      go (Err f) e = same (test-refused o m f e ∙ sym e)
      go (Ok t) e =
          elim (dec_lt m (2 * t.edges)) [
            | yes h ↦
                rw (test_short o m t.edges t.anchor e h)
                (record { anchor = λ z. absurd (omega (arith, z)); missing = λ z. absurd (omega (arith, z)) })
            | no h ↦ same (test-taken o m t.edges t.anchor e (omega arith) ∙ sym e)
          ]

  -- The anchor and the edges in the buffer of a taken outline decide which cells are enclosed
  pub taken-answers : (buffer : List ℤ) (n : ℕ) (a : Point) → test_of o (length buffer) ≡ taken_with n a → (x : Point) → x.col < side
      → x.row < side
      → inside_edges a (take (2 * n) (edges_after o buffer)) x ≡ block o x.col x.row
  taken-answers buffer n a e x i j =
      let f : TakenFacts o n a = taken-facts o n a (roomy o (length buffer) n a e).verdict in
      ap (λ (es : List ℤ). inside_edges a es x) (edges-first o buffer n a e) ∙
      (ap (λ (b : Point). inside_edges b (edges (border o)) x) f.anchor ∙
      edges-answer-sent o f.reaches f.undented x i j)
