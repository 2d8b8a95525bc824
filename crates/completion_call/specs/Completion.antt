-- A completion: the first of refusals 1 to 6 that applies, 18, or the border of the outline round the hull (contract 6.6).
use Rattle.std.specs.Prelude.{ℕ, cond, List, ◌++◌, length, drop, ltb, Result, Ok, Err}
use Rattle.chart.specs.declared.Point.{Point}
use Rattle.chart.specs.declared.Fields.{Fields}
use Rattle.chart.specs.Outline.{Outline}
use Rattle.chart.specs.Fields.{accepted, no_word, refusal_fields}
use Rattle.chart.specs.declared.Refusal.TheVariants.{LetterBuffer}
use Rattle.lattice.specs.Chart.{size}
use Rattle.survey_walk.specs.declared.Corners.{Corners}
use Rattle.chart.specs.declared.Refusal.{Refusal}
use Rattle.survey.specs.Survey.{survey_of}
use Rattle.convexity.specs.Clockwise.{border}
use Rattle.completion.specs.Complete.{complete as completion_of}
use Rattle.completion_call.specs.declared.Completed.{Completed}

-- The result of a call that writes n letters, which start at corner s
abbrev pub written : ℕ → Point → Result Completed Refusal
written n s = Ok (record { letters = n; start = s })

-- 18, or the count of letters of v and the corner where they start, with a buffer of n
unfoldable pub letters_in : ℕ → Outline → Result Completed Refusal
letters_in n v = cond (ltb n (size v)) (Err LetterBuffer) (written (size v) v.start)

-- The refusal of 1 to 6, or the given result
unfoldable pub after_survey : Result Corners Refusal → Result Completed Refusal → Result Completed Refusal
after_survey (Ok c) d = d
after_survey (Err f) d = Err f

unfoldable pub completed_of : Outline → ℕ → Result Completed Refusal
completed_of o n = after_survey (survey_of o) (letters_in n (border (completion_of o)))

-- The reply's fields
unfoldable pub completed_fields : Result Completed Refusal → Fields
completed_fields (Ok w) = accepted no_word w.letters w.start
completed_fields (Err f) = refusal_fields f

-- The buffer afterwards. The letters stand first and the rest is unchanged. A refused call changes nothing
unfoldable pub written_after : Result Completed Refusal → List ℕ → List ℕ → List ℕ
written_after (Ok c) w buffer = w ++ drop (length w) buffer
written_after (Err f) w buffer = buffer

unfoldable pub completion_after : Outline → List ℕ → List ℕ
completion_after o buffer = written_after (completed_of o (length buffer)) (border (completion_of o)).letters buffer
