-- The survey refuses the outline, or it passes 1 to 6 and the search gives the reply.
use mathlib.Core.Path.{sym, ◌∙◌}
use Rattle.std.proofs.lemmas.Result.{err_from_is_err_and}
use Rattle.survey.proofs.SurveyLaws.{survey-simple}
use Rattle.witness_call.proofs.Laws.{stopped-answers, passed-answers}
use Rattle.witness_call.proofs.witness.Goals as goal

pub show-requires : goal.show-requires
show-requires c = survey-simple _ (sym c.survey.ensures ∙ c.in_ok-survey.was)

pub returns-in_err-survey : goal.returns-in_err-survey
returns-in_err-survey c =
    let said = stopped-answers _ c.args.cells.now (sym c.survey.ensures ∙ c.in_err-survey.was) in
    let p = err_from_is_err_and c.from_residual.result c.from_residual.ensures.1 in
    rw (p.1, p.2) (record { answer = said.0; cells = said.1.0; named = said.1.1 })

pub returns : goal.returns
returns c =
    let shown = c.show.ensures in
    let said = passed-answers _ c.args.cells.now (sym c.survey.ensures ∙ c.in_ok-survey.was) (shown.answer, shown.cells) in
    record { answer = said.0; cells = said.1.0; named = said.1.1 }
