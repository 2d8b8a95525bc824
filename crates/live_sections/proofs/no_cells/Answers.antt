-- No layer has a cell.
use mathlib.Core.Path.{refl}
use Rattle.base.specs.Below.{every}
use Rattle.sections.specs.Sections.{fold, full, alone, joined_from, reached, whole_in, whole, clear}
use Rattle.live_sections.specs.parts.Reach.{clear_of}
use Rattle.live_sections.proofs.no_cells.Goals as goal

pub returns : goal.returns
unfolding clear_of clear every whole whole_in reached fold joined_from alone full
returns c = refl
