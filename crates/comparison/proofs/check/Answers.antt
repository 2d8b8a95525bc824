-- Each return is a case of the definition. After refusal 10 the list is short enough to check 16.
use mathlib.Core.Path.{◌≡◌, sym, ◌∙◌}
use mathlib.Core.Bool.{Bool, false}
use mathlib.Core.List.{List}
use lib.IntN.{ℤ}
use borrow.Author.Tests.{not-true, not-false}
use Rattle.directions.specs.Increasing.{bad_directions}
use Rattle.polygon.specs.Loose.{bad_list, bad_directions_list}
use Rattle.polygon.proofs.LooseCases.{short-list, turning-short}
use Rattle.comparison.proofs.Cases.{checked-list, checked-anchor, checked-turning, checked-walk, checked-fit}
use Rattle.comparison.proofs.check.Goals as goal

-- What the test of 16 says of a list that passes 10
turning-is : (es : List ℤ) {l t u : Bool} → l ≡ bad_list es → l ≡ false → t ≡ bad_directions_list es → t ≡ u → bad_directions es ≡ u
turning-is es e l d t = sym (d ∙ turning-short es (short-list es (sym e ∙ l))) ∙ t

pub returns-then-bad_list : goal.returns-then-bad_list
returns-then-bad_list c = checked-list _ _ (sym c.bad_list.ensures ∙ c.if-bad_list.true)

pub returns-then-bad_cell : goal.returns-then-bad_cell
returns-then-bad_cell c =
    checked-anchor _ _ (sym c.bad_list.ensures ∙ c.if-bad_list.false) (sym c.bad_cell.ensures ∙ c.if-bad_cell.true)

pub returns-then-bad_directions : goal.returns-then-bad_directions
returns-then-bad_directions c =
    checked-turning _ _ (sym c.bad_list.ensures ∙ c.if-bad_list.false) (sym c.bad_cell.ensures ∙ c.if-bad_cell.false)
    (turning-is _ c.bad_list.ensures c.if-bad_list.false c.bad_directions.ensures c.if-bad_directions.true)

pub returns-then-leaves_chart : goal.returns-then-leaves_chart
returns-then-leaves_chart c =
    checked-walk _ _ (sym c.bad_list.ensures ∙ c.if-bad_list.false) (sym c.bad_cell.ensures ∙ c.if-bad_cell.false)
    (turning-is _ c.bad_list.ensures c.if-bad_list.false c.bad_directions.ensures c.if-bad_directions.false)
    (not-true _ (sym c.leaves_chart.ensures ∙ c.if-leaves_chart.true))

pub returns : goal.returns
returns c =
    checked-fit _ _ (sym c.bad_list.ensures ∙ c.if-bad_list.false) (sym c.bad_cell.ensures ∙ c.if-bad_cell.false)
    (turning-is _ c.bad_list.ensures c.if-bad_list.false c.bad_directions.ensures c.if-bad_directions.false)
    (not-false _ (sym c.leaves_chart.ensures ∙ c.if-leaves_chart.false))
