-- The sections are those at each row, in their order.
use mathlib.Core.Bool.{not}
use borrow.Author.Rules.{rules}
use Rattle.pile_sections.specs.Sections.{row_clear, dented_row}
use Rattle.live_sections.specs.Layers.{layers_of}
use Rattle.live_sections.proofs.SearchLaws.{row_at}
use Rattle.live_sections.proofs.dented_row.Goals as goal

pub returns : goal.returns
unfolding dented_row
returns c =
    c.first_dented.ensures (λ k. not (row_clear (layers_of c.args.rows.now) k))
    (λ n s h p. row_at (layers_of c.args.rows.now) n s (search rules))
