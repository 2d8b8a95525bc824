-- A cell is within if its column is between the two bytes of its row.
use Rattle.span_list.proofs.SlotLaws.{within-right, within-left}
use Rattle.span_list.proofs.within.Goals as goal

pub returns-then-ends-cell : goal.returns-then-ends-cell
returns-then-ends-cell c = within-right _ _ _ c.requires.1 _ c.ends_at-ends.ensures _ c.if-ends-cell.true

pub returns-else-ends-cell : goal.returns-else-ends-cell
returns-else-ends-cell c = within-left _ _ _ c.requires.1 _ c.ends_at-ends.ensures _ c.if-ends-cell.false
