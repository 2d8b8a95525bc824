-- Each refusal is a case of the definition, by the tests that led there. What passes them is traced.
use mathlib.Core.Path.{sym, ◌∙◌}
use Rattle.polygon.proofs.LooseCases.{short-list, turning-short}
use Rattle.border_model.proofs.TracedCases.{traced-list, traced-anchor, traced-turning}
use Rattle.border.proofs.border.Goals as goal

pub returns-then-bad_list : goal.returns-then-bad_list
returns-then-bad_list c =
    let a = traced-list _ _ _ (sym c.bad_list.ensures ∙ c.if-bad_list.true) in
    record { answer = a.answer; letters = a.letters; outline = a.named }

pub returns-then-bad_cell : goal.returns-then-bad_cell
returns-then-bad_cell c =
    let a = traced-anchor _ _ _ (sym c.bad_list.ensures ∙ c.if-bad_list.false) (sym c.bad_cell.ensures ∙ c.if-bad_cell.true) in
    record { answer = a.answer; letters = a.letters; outline = a.named }

pub returns-then-bad_directions : goal.returns-then-bad_directions
returns-then-bad_directions c =
    let listed = sym c.bad_list.ensures ∙ c.if-bad_list.false in
    let turned = c.bad_directions.ensures ∙ turning-short _ (short-list _ listed) in
    let a = traced-turning _ _ _ listed (sym c.bad_cell.ensures ∙ c.if-bad_cell.false) (sym turned ∙ c.if-bad_directions.true) in
    record { answer = a.answer; letters = a.letters; outline = a.named }

pub trace-requires : goal.trace-requires
trace-requires c =
    let listed = sym c.bad_list.ensures ∙ c.if-bad_list.false in
    let turned = c.bad_directions.ensures ∙ turning-short _ (short-list _ listed) in
    (listed, sym c.bad_cell.ensures ∙ c.if-bad_cell.false, sym turned ∙ c.if-bad_directions.false)
