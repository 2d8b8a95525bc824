-- Back-steps are dents too: an outline that passes 1 to 6 is refused by 8 or 9 exactly if a cell is missing, because a back-step leaves a
-- missing cell, and without one an outline has a missing cell exactly if it is dented.
use Rattle.std.specs.Prelude.{Result, Ok, Err}
use Prim.Native.Nat.{ℕ, ◌*◌, ◌≤◌, ◌<◌}
use native.Mathlib.Omega.{arith}
use native.Mathlib.Decide.{dec_lt}
use mathlib.Core.Path.{◌≡◌, refl, sym, ap, ◌∙◌}
use mathlib.Core.Logic.{◌⊎◌, inl, inr, ⊎_elim, ◌↔◌}
use lib.Dec.{lit<, lit≤}
use borrow.Author.Tests.{le-ltb}
use Rattle.chart.specs.declared.Point.{Point}
use Rattle.chart.specs.declared.Refusal.{Refusal}
use Rattle.chart.specs.declared.Taken.{Taken}
use Rattle.chart.specs.Taken.{taken_with}
use Rattle.chart.specs.Outline.{Outline}
use Rattle.chart.specs.Fields.{refusal_fields}
use Rattle.chart.proofs.TakenLaws.{verdict_number}
use Rattle.lattice.specs.Hull.{Missing, Convex}
use Rattle.lattice.specs.Refusals.{Simple}
use Rattle.convexity.specs.Clockwise.{border, block}
use Rattle.convexity.specs.Pieces.{Reaches, back_step_piece, dent_piece, edge_count}
use Rattle.convexity.proofs.Shape.{straight-of}
use Rattle.convexity.proofs.BackSteps.{back-step-missing-sent, passes-iff-convex}
use Rattle.verdict.specs.Verdict.{dent_in, verdict_of, test_fields}
use Rattle.verdict.specs.Dents.{Dented, dent_of}
use Rattle.verdict.proofs.VerdictLaws.{past_eight, Early, simple-or-early, reaches-or-early, reaches_of, dented-or-not}
use Rattle.verdict.proofs.VerdictLaws.{verdict-dented, verdict-taken, nine-of-dented, test-refused, test_short, test-taken}

module _ (o : Outline) where
  -- An outline that passes 1 to 8 is refused by 9 or taken
  not_eight : Reaches o → verdict_number (verdict_of o) ≡ 8 → ⊥
  not_eight r e =
      ⊎_elim (λ d. omega (arith, e, nine-of-dented o (record { reaches = r; dented = d })))
      (λ u. omega (arith, e, ap verdict_number (verdict-taken o r u))) (dented-or-not (border o))

  -- Every outline that 8 refuses has a missing cell (contract 8.5)
  pub eight-missing : verdict_number (verdict_of o) ≡ 8 → (x : Point) × Missing (block o) x
  eight-missing e = ⊎_elim stepped (λ s. absurd (omega (arith, e, s.early, ap verdict_number s.answer))) (simple-or-early o)
    where
      stepped : Simple o → (x : Point) × Missing (block o) x
      stepped h =
          elim (dec_lt (back_step_piece (border o)) 4) [
            | yes l ↦ back-step-missing-sent o h l
            | no l ↦ absurd (not_eight (record { simple = h; straight = le-ltb (back_step_piece (border o)) 4 (omega arith) }) e)
          ]

  -- An outline that passes 1 to 6 is taken exactly if no cell is missing
  pub taken-iff-convex : Simple o → (verdict_number (verdict_of o) ≡ 0) ↔ Convex (block o)
  unfolding past_eight
  taken-iff-convex h = (λ e. (passes-iff-convex o h).0 (passed e), taken)
    where
      passed : verdict_number (verdict_of o) ≡ 0 → (back_step_piece (border o) ≡ 4) × (dent_piece (border o) ≡ 4)
      passed e =
          let r : Reaches o = reaches_of o (rw e) in (
            straight-of (border o) r.straight,
            ⊎_elim (λ d. absurd (omega (arith, e, nine-of-dented o (record { reaches = r; dented = d })))) (λ u. u)
                (dented-or-not (border o)),
          )

      taken : Convex (block o) → verdict_number (verdict_of o) ≡ 0
      taken full =
          let (s, u) = (passes-iff-convex o h).1 full in
          ap verdict_number (verdict-taken o (record { simple = h; straight = le-ltb (back_step_piece (border o)) 4 (omega (arith, s)) }) u)

  -- ---- the test

  -- With any buffer, 8 means that a cell is missing: room is checked only for a taken outline
  pub test-eight-missing : (m : ℕ) → (test_fields o m).number ≡ 8 → (x : Point) × Missing (block o) x
  unfolding test_fields
  test-eight-missing m e = go (verdict_of o) refl
    where
      go : (v : Result Taken Refusal) → verdict_of o ≡ v → (x : Point) × Missing (block o) x
      go (Err f) q = eight-missing (ap verdict_number (q ∙ sym (test-refused o m f q)) ∙ e)
      go (Ok t) q =
          elim (dec_lt m (2 * t.edges)) [
            | yes l ↦ absurd (omega (arith, e, ap verdict_number (test_short o m t.edges t.anchor q l)))
            | no l ↦ absurd (omega (arith, e, ap verdict_number (test-taken o m t.edges t.anchor q (omega arith))))
          ]

  -- The outline is taken, with its own edges and anchor
  abbrev IsTaken : Type 0
  IsTaken = verdict_of o ≡ taken_with (edge_count (border o)) (border o).start

  -- Every outline is taken, or refused by one of 1 to 9
  taken-or-early : IsTaken ⊎ Early 9 (verdict_of o)
  unfolding dent_of dent_in
  taken-or-early =
      ⊎_elim reaching (λ e. inr (record { refusal = e.refusal; above_zero = e.above_zero; early = omega (arith, e.early); answer = e.answer }))
      (reaches-or-early o)
    where
      dented : Dented o → Early 9 (verdict_of o)
      dented h = record { refusal = dent_of o; above_zero = lit< tt; early = lit≤ tt; answer = verdict-dented o h }

      reaching : Reaches o → IsTaken ⊎ Early 9 (verdict_of o)
      reaching r =
          ⊎_elim (λ l. inr (dented (record { reaches = r; dented = l }))) (λ u. inl (verdict-taken o r u)) (dented-or-not (border o))

  module _ (m : ℕ) (h : Simple o) where
    -- The number of the test with a buffer of m numbers: for a taken outline only room is checked
    with-room : IsTaken → 2 * edge_count (border o) ≤ m → (test_fields o m).number ≡ 0
    unfolding test_fields
    with-room e room = ap verdict_number (test-taken o m (edge_count (border o)) (border o).start e room)

    without-room : IsTaken → m < 2 * edge_count (border o) → (test_fields o m).number ≡ 10
    unfolding test_fields
    without-room e l = ap verdict_number (test_short o m (edge_count (border o)) (border o).start e l)

    -- A refusal by 1 to 9 is the same for every buffer, and after 1 to 6 it means that a cell is missing
    early-number : (e : Early 9 (verdict_of o)) → (test_fields o m).number ≡ (refusal_fields e.refusal).number
    unfolding test_fields
    early-number e = ap verdict_number (test-refused o m e.refusal e.answer)

    not_full : Early 9 (verdict_of o) → Convex (block o) → ⊥
    not_full e full = omega (arith, e.above_zero, ap verdict_number e.answer, (taken-iff-convex h).1 full)

    -- With any buffer, the number of an outline that passes 1 to 6 is 0 or 10 exactly if no cell is missing
    pub test-passes-iff-convex : (((test_fields o m).number ≡ 0) ⊎ ((test_fields o m).number ≡ 10)) ↔ Convex (block o)
    test-passes-iff-convex = ⊎_elim taken refused taken-or-early
      where
        taken : IsTaken → (((test_fields o m).number ≡ 0) ⊎ ((test_fields o m).number ≡ 10)) ↔ Convex (block o)
        taken e = (
          λ n. (taken-iff-convex h).0 (ap verdict_number e),
          λ full. elim (dec_lt m (2 * edge_count (border o))) [
            | yes l ↦ inr (without-room e l)
            | no l ↦ inl (with-room e (omega arith))
          ],
        )

        refused : Early 9 (verdict_of o) → (((test_fields o m).number ≡ 0) ⊎ ((test_fields o m).number ≡ 10)) ↔ Convex (block o)
        refused e = (
          ⊎_elim (λ z. absurd (omega (arith, z, early-number e, e.above_zero))) (λ t. absurd (omega (arith, t, early-number e, e.early))),
          λ full. absurd (not_full e full),
        )

    -- It is 0 exactly if moreover the buffer has two numbers for each edge
    pub test-taken-iff-convex : ((test_fields o m).number ≡ 0) ↔ (Convex (block o) × (2 * edge_count (border o) ≤ m))
    test-taken-iff-convex = ⊎_elim taken refused taken-or-early
      where
        taken : IsTaken → ((test_fields o m).number ≡ 0) ↔ (Convex (block o) × (2 * edge_count (border o) ≤ m))
        taken e = (
          λ z. (
            (taken-iff-convex h).0 (ap verdict_number e),
            elim (dec_lt m (2 * edge_count (border o))) [
              | yes l ↦ absurd (omega (arith, z, without-room e l))
              | no l ↦ omega arith
            ],
          ),
          λ f. with-room e f.1,
        )

        refused : Early 9 (verdict_of o) → ((test_fields o m).number ≡ 0) ↔ (Convex (block o) × (2 * edge_count (border o) ≤ m))
        refused e = (λ z. absurd (omega (arith, z, early-number e, e.above_zero)), λ f. absurd (not_full e f.0))
