-- The cell is left of the row, within it, or right of it.
use native.Mathlib.Omega.{arith}
use native.Mathlib.Numerals.{sub-one}
use mathlib.Core.Path.{◌∙◌}
use Rattle.witness_search.proofs.Laws.{shows_left, shows-row, shows-right}
use Rattle.witness_search.proofs.display.Goals as goal

pub returns-then-c-sides : goal.returns-then-c-sides
returns-then-c-sides c =
    shows_left (omega arith) c.cell-x.ensures c.cell.ensures c.cell-then-c-sides.ensures c.cell-then-c-sides-2.ensures

pub returns-then-c-sides-2 : goal.returns-then-c-sides-2
returns-then-c-sides-2 c =
    shows-row (omega arith) (omega arith) (c.saturating_sub.ensures ∙ sub-one _) c.cell-x.ensures c.cell-then-c-sides-2-2.ensures
    c.cell-last.ensures c.cell-last.ensures

pub returns : goal.returns
returns c =
    shows-right (omega (arith, c.if-c-sides.false)) (omega arith) (c.saturating_sub-2.ensures ∙ sub-one _)
    (c.saturating_sub-3.ensures ∙ sub-one _) (c.saturating_sub.ensures ∙ sub-one _) c.cell-x.ensures c.cell-2.ensures c.cell-3.ensures
    c.cell-last.ensures
