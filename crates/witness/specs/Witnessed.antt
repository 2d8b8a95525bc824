-- A witness call: refusals 1 to 6 and 10; "none" if no cell is missing; otherwise the
-- lowest missing cell, with three cells in the buffer (contract 6.5).
use Rattle.std.specs.Prelude.{ℕ, cond, List, [], ◌∷◌, ◌++◌, length, drop, ltb, Some, None, Ok, Err, Option, Result}
use Rattle.chart.specs.declared.Point.{Point}
use Rattle.chart.specs.declared.Fields.{Fields}
use Rattle.chart.specs.declared.Refusal.{Refusal}
use Rattle.chart.specs.declared.Refusal.TheVariants.{EdgeList}
use Rattle.chart.specs.Fields.{no_word, worded, accepted, refusal_fields}
use Rattle.chart.specs.Outline.{Outline}
use Rattle.calls.specs.Replies.{none_word}
use Rattle.survey_walk.specs.declared.Corners.{Corners}
use Rattle.survey.specs.Survey.{survey_of}
use Rattle.witness.specs.Three.{Three}
use Rattle.witness.specs.Gap.{is_missing, lowest_missing, witness_of}

-- Three cells have six numbers
abbrev pub six_numbers : ℕ
six_numbers = 6

-- For an outline that passes 1 to 6, with a buffer of n numbers: 10, the lowest missing cell, or none
unfoldable pub shown_in : ℕ → Outline → Result (Option Point) Refusal
shown_in n o = cond (ltb n six_numbers) (Err (EdgeList 0)) (Ok (cond (is_missing o) (Some (lowest_missing o)) None))

-- The refusal of 1 to 6, or the given result
unfoldable pub past_survey : Result Corners Refusal → Result (Option Point) Refusal → Result (Option Point) Refusal
past_survey (Ok c) v = v
past_survey (Err f) v = Err f

unfoldable pub witnessed_of : Outline → ℕ → Result (Option Point) Refusal
witnessed_of o n = past_survey (survey_of o) (shown_in n o)

-- The reply's fields
unfoldable pub witnessed_fields : Result (Option Point) Refusal → Fields
witnessed_fields (Ok (Some x)) = accepted no_word 0 x
witnessed_fields (Ok None) = worded none_word
witnessed_fields (Err f) = refusal_fields f

-- Three cells as six numbers
unfoldable pub three_numbers : Three → List ℕ
three_numbers w = w.a.col ∷ w.a.row ∷ w.b.col ∷ w.b.row ∷ w.d.col ∷ w.d.row ∷ []

-- The buffer afterwards. The six numbers stand first and the rest is unchanged. Without a missing cell nothing changes
unfoldable pub shown_after : Result (Option Point) Refusal → Three → List ℕ → List ℕ
shown_after (Ok (Some x)) w buffer = three_numbers w ++ drop six_numbers buffer
shown_after (Ok None) w buffer = buffer
shown_after (Err f) w buffer = buffer

unfoldable pub cells_after : Outline → List ℕ → List ℕ
cells_after o buffer = shown_after (witnessed_of o (length buffer)) (witness_of o) buffer
