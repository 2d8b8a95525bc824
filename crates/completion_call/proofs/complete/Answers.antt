-- The survey refuses the outline, or it passes 1 to 6 and its hull's border is written.
use mathlib.Core.Path.{sym, ◌∙◌}
use Rattle.std.proofs.lemmas.Result.{err_from_is_err_and}
use Rattle.survey.proofs.SurveyLaws.{survey-simple}
use Rattle.completion_call.proofs.CompletedLaws.{stopped-answers}
use Rattle.completion_call.proofs.complete.Goals as goal

pub write_letters-requires : goal.write_letters-requires
write_letters-requires c = survey-simple _ (sym c.survey.ensures ∙ c.in_ok-survey.was)

pub returns-in_err-survey : goal.returns-in_err-survey
returns-in_err-survey c =
    let said = stopped-answers _ c.args.out.now (sym c.survey.ensures ∙ c.in_err-survey.was) in
    let p = err_from_is_err_and c.from_residual.result c.from_residual.ensures.1 in
    rw (p.1, p.2) (record { answer = said.answer; letters = said.letters; cells = said.named })

pub returns : goal.returns
returns c =
    let said = c.write_letters.ensures in
    record { answer = said.answer; letters = said.letters; cells = said.named }
