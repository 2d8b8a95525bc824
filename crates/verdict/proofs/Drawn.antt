-- A block gets the same verdict wherever its outline is started and in whichever direction it is drawn: 8, 9 and "taken" depend on the
-- border, which the block determines, and only places depend on the list as sent.
use Rattle.std.specs.Prelude.{Err}
use Prim.Native.Nat.{ℕ}
use native.Mathlib.Omega.{arith}
use mathlib.Core.Path.{◌≡◌, refl, ap}
use mathlib.Core.Bool.{Bool, true, false, cond}
use lib.Dec.{ltb}
use Rattle.chart.specs.Taken.{taken_with}
use Rattle.chart.specs.Outline.{Outline}
use Rattle.chart.specs.Fields.{verdict_fields}
use Rattle.lattice.specs.Refusals.{Simple}
use Rattle.survey.proofs.SurveyLaws.{survey-passed}
use Rattle.convexity.specs.Cut.{from_w}
use Rattle.convexity.specs.Clockwise.{reversed, border, place_sent}
use Rattle.convexity.specs.Pieces.{back_step_piece, dent_piece, edge_count}
use Rattle.convexity.specs.SameBlock.{SameCells}
use Rattle.convexity.proofs.Clockwise.{simple-backward, form-of-backward}
use Rattle.convexity.proofs.SameBlock.{same-from-w-iff}
use Rattle.verdict.specs.Verdict.{back_step_in, dent_in, verdict_of}
use Rattle.verdict.specs.parts.Chain.{round_verdict, border_verdict, after_survey}
use Rattle.verdict.specs.Drawn.{SameButPlace}
use Rattle.verdict.proofs.Chain.{verdict-chain}

-- Only the places depend on the list as sent
said-alike : (p q : ℕ → ℕ) (t : Outline) → SameButPlace (verdict_fields (round_verdict p t)) (verdict_fields (round_verdict q t))
unfolding round_verdict back_step_in dent_in
said-alike p q t = go (ltb (back_step_piece t) 4) (ltb (dent_piece t) 4)
  where
    go :
        (b d : Bool) →
        SameButPlace
        (verdict_fields (cond b (Err (back_step_in p t (back_step_piece t)))
        (cond d (Err (dent_in p t (dent_piece t))) (taken_with (edge_count t) t.start))))
        (verdict_fields (cond b (Err (back_step_in q t (back_step_piece t)))
        (cond d (Err (dent_in q t (dent_piece t))) (taken_with (edge_count t) t.start))))
    go true d =
        record { number = refl; word = refl; piece = refl; same_length = refl; col = refl; row = refl; edges = λ z. absurd (omega arith) }
    go false true =
        record { number = refl; word = refl; piece = refl; same_length = refl; col = refl; row = refl; edges = λ z. absurd (omega arith) }
    go false false = record { number = refl; word = refl; piece = refl; same_length = refl; col = refl; row = refl; edges = λ z. refl }

-- After 1 to 6 the border decides
verdict-border : (o : Outline) → Simple o → verdict_of o ≡ round_verdict (place_sent o) (border o)
unfolding after_survey border_verdict
verdict-border o h = rw (verdict-chain o, ← survey-passed o h)

same-border-verdict : (o v : Outline) → Simple o → Simple v → border o ≡ border v
    → SameButPlace (verdict_fields (verdict_of o)) (verdict_fields (verdict_of v))
same-border-verdict o v h k e = rw (verdict-border o h, verdict-border v k, e) (said-alike (place_sent o) (place_sent v) (border v))

-- Outlines of the same block that pass 1 to 6 get the same reply, except for places
pub same-block-verdict : (o v : Outline) → Simple o → Simple v → SameCells o v
    → SameButPlace (verdict_fields (verdict_of o)) (verdict_fields (verdict_of v))
same-block-verdict o v h k same = same-border-verdict o v h k ((same-from-w-iff o v h k).0 same)

-- So does an outline drawn backward; if taken, it has the same anchor and the same edges
pub backward-border : (o : Outline) → Simple o → border (reversed o) ≡ border o
backward-border o h = ap from_w (form-of-backward o h)

pub backward-verdict : (o : Outline) → Simple o → SameButPlace (verdict_fields (verdict_of (reversed o))) (verdict_fields (verdict_of o))
backward-verdict o h = same-border-verdict (reversed o) o (simple-backward o h) h (backward-border o h)
