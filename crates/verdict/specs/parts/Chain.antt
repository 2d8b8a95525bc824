-- The verdict in the order in which the code finds it: 1 to 6 by a survey, then 8 and 9 of the border. It is the verdict
-- (proofs/Chain.antt: `verdict-chain`).
use Rattle.std.specs.Prelude.{ℕ, cond, ltb, Result, Ok, Err}
use Rattle.chart.specs.declared.Taken.{Taken}
use Rattle.chart.specs.Taken.{taken_with}
use Rattle.chart.specs.Outline.{Outline}
use Rattle.survey_walk.specs.declared.Corners.{Corners}
use Rattle.chart.specs.declared.Refusal.{Refusal}
use Rattle.convexity.specs.Clockwise.{border, place_sent}
use Rattle.convexity.specs.Pieces.{back_step_piece, dent_piece, edge_count}
use Rattle.verdict.specs.Verdict.{back_step_in, dent_in}

-- 8 and 9 of a border; or taken, with the count of edges and the anchor
unfoldable pub round_verdict : (ℕ → ℕ) → Outline → Result Taken Refusal
round_verdict place t =
    cond (ltb (back_step_piece t) 4) (Err (back_step_in place t (back_step_piece t)))
    (cond (ltb (dent_piece t) 4) (Err (dent_in place t (dent_piece t))) (taken_with (edge_count t) t.start))

-- 8 and 9 of an outline, or taken: those of its border, with places in the list as sent
unfoldable pub border_verdict : Outline → Result Taken Refusal
border_verdict o = round_verdict (place_sent o) (border o)

-- The refusal of 1 to 6 if there is one, otherwise the given verdict
unfoldable pub after_survey : Result Corners Refusal → Result Taken Refusal → Result Taken Refusal
after_survey (Ok c) v = v
after_survey (Err f) v = Err f
