-- Each check is that of its definition, and each return cites the law of its refusal.
use Rattle.std.proofs.Common.{◌∙◌, sym, arith}
use Rattle.survey_walk.proofs.CheckLaws.{counted-short}
use Rattle.survey.proofs.SurveyLaws.{survey-count, survey-start, survey-letter-at, placed, not-placed}
use Rattle.survey.proofs.survey.Goals as goal

pub returns-then-bad_count : goal.returns-then-bad_count
returns-then-bad_count c = survey-count _ (sym c.bad_count.ensures ∙ c.if-bad_count.true)

pub returns-then-bad_start : goal.returns-then-bad_start
returns-then-bad_start c =
    survey-start _ (sym c.bad_count.ensures ∙ c.if-bad_count.false) (sym c.bad_start.ensures ∙ c.if-bad_start.true)

pub overflow_cast-result : goal.overflow_cast-result
overflow_cast-result c =
    let letter = placed (sym c.in-Some.is ∙ c.letter_place.ensures) in
    omega (arith, counted-short _ (sym c.bad_count.ensures ∙ c.if-bad_count.false), letter.1)

pub returns-in-Some : goal.returns-in-Some
returns-in-Some c =
    let letter = placed (sym c.in-Some.is ∙ c.letter_place.ensures) in
    survey-letter-at _ (sym c.bad_count.ensures ∙ c.if-bad_count.false) (sym c.bad_start.ensures ∙ c.if-bad_start.false) letter.0 letter.1

pub walked-requires : goal.walked-requires
walked-requires c =
    record {
      counted = sym c.bad_count.ensures ∙ c.if-bad_count.false;
      started = sym c.bad_start.ensures ∙ c.if-bad_start.false;
      lettered = not-placed _ _ (sym c.in_default.is ∙ c.letter_place.ensures);
    }
