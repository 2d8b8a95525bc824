-- The first refusal of the list is the survey's, or the border's if the survey has none: one test after the other.
use Rattle.std.specs.Prelude.{Result, Err}
use Prim.Native.Nat.{◌-◌}
use mathlib.Core.Path.{◌≡◌, refl}
use mathlib.Core.Bool.{Bool, true, false, cond}
use lib.Dec.{ltb}
use Rattle.chart.specs.declared.Refusal.{Refusal}
use Rattle.chart.specs.declared.Refusal.TheVariants.{Length, Start, Letter, OffChart, NotClosed, Touches}
use Rattle.chart.specs.declared.Taken.{Taken}
use Rattle.chart.specs.Outline.{Outline}
use Rattle.lattice.specs.Chart.{size}
use Rattle.lattice.specs.Refusals.{bad_count, bad_start, letter_place, leaving_place, unclosed, touching_place}
use Rattle.survey_walk.specs.declared.Corners.{Corners}
use Rattle.survey.specs.Survey.{survey_of}
use Rattle.verdict.specs.Verdict.{first_of, checks, verdict_of}
use Rattle.verdict.specs.parts.Chain.{round_verdict, border_verdict, after_survey}

one_more : (b : Bool) (f : Refusal) (s : Result Corners Refusal) (v w : Result Taken Refusal) → w ≡ after_survey s v
    → cond b (Err f) w ≡ after_survey (cond b (Err f) s) v
unfolding after_survey
one_more true f s v w e = refl
one_more false f s v w e = e

pub verdict-chain : (o : Outline) → verdict_of o ≡ after_survey (survey_of o) (border_verdict o)
unfolding verdict_of first_of checks survey_of after_survey border_verdict round_verdict
verdict-chain o =
    one_more (bad_count o.letters) Length _ _ _
    (one_more (bad_start o.start) Start _ _ _
    (one_more (ltb (letter_place o.letters) (size o)) (Letter (letter_place o.letters)) _ _ _
    (one_more (ltb (leaving_place o) (size o)) (OffChart (leaving_place o)) _ _ _
    (one_more (unclosed o) NotClosed _ _ _
    (one_more (ltb (touching_place o) (size o - 1)) (Touches (touching_place o)) _ _ _ refl)))))
