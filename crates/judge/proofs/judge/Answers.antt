-- The survey refuses the outline, or it passes refusals 1 to 6 and its border is judged.
use mathlib.Core.Path.{sym}
use Rattle.std.proofs.lemmas.Result.{err_from_is_err_and}
use Rattle.survey.proofs.SurveyLaws.{survey-simple, survey-corners}
use Rattle.judge.proofs.JudgedLaws.{stopped-outcome, passed-outcome, outcome-edges}
use Rattle.judge.proofs.judge.Goals as goal

pub read-requires : goal.read-requires
read-requires c =
    let passed = sym c.in_ok-found.ensures in
    record { simple = survey-simple _ passed; found_value = survey-corners _ passed }

pub returns-in_err-found : goal.returns-in_err-found
returns-in_err-found c =
    let s = stopped-outcome _ (sym c.in_err-found.ensures) _ in
    let p = err_from_is_err_and c.from_residual.result c.from_residual.ensures.1 in
    rw (p.1, p.2) (record { value = s.verdict; buffer_after = outcome-edges _ s })

pub returns : goal.returns
returns c =
    let s = passed-outcome _ (sym c.in_ok-found.ensures) c.read.ensures in
    record { value = s.verdict; buffer_after = outcome-edges _ s }
