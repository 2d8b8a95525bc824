-- Each return is a case of the definition, whose words name what holds for the cells.
use mathlib.Core.Path.{sym, ap, ◌∙◌}
use Rattle.std.specs.Prelude.{Ok}
use Rattle.std.proofs.lemmas.Result.{err_from_is_err_and}
use Rattle.comparison.proofs.Cases.{fit-passes, list-fits, compared-first, compared-second, compared-found}
use Rattle.comparison.proofs.Words.{answer-named}
use Rattle.comparison.proofs.relate.Goals as goal

pub returns-in_err-check_list : goal.returns-in_err-check_list
returns-in_err-check_list c =
    let p = err_from_is_err_and c.from_residual.result c.from_residual.ensures.1 in
    let a = answer-named _ _ _ _ _ (compared-first _ _ _ _ (sym c.in_err-check_list.was ∙ c.check_list.ensures)) in
    rw (p.1, p.2) (record { answer = a.0; cells = a.1 })

pub returns-in_err-check_list-2 : goal.returns-in_err-check_list-2
returns-in_err-check_list-2 c =
    let p = err_from_is_err_and c.from_residual-in_err-check_list-2.result c.from_residual-in_err-check_list-2.ensures.1 in
    let first = list-fits _ _ _ (sym c.in_ok-check_list.was ∙ c.check_list.ensures) in
    let a = answer-named _ _ _ _ _ (compared-second _ _ _ _ first (sym c.in_err-check_list-2.was ∙ c.check_list-2.ensures)) in
    rw (p.1, p.2) (record { answer = a.0; cells = a.1 })

pub nest-requires : goal.nest-requires
nest-requires c = (
  fit-passes _ _ (list-fits _ _ _ (sym c.in_ok-check_list.was ∙ c.check_list.ensures)),
  fit-passes _ _ (list-fits _ _ _ (sym c.in_ok-check_list-2.was ∙ c.check_list-2.ensures)),
)

pub returns : goal.returns
returns c =
    let first = list-fits _ _ _ (sym c.in_ok-check_list.was ∙ c.check_list.ensures) in
    let second = list-fits _ _ _ (sym c.in_ok-check_list-2.was ∙ c.check_list-2.ensures) in
    let a = answer-named _ _ _ _ _ (ap Ok c.nest.ensures ∙ compared-found _ _ _ _ first second) in
    record { answer = a.0; cells = a.1 }
