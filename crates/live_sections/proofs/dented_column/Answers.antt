-- The sections are those at each column, in their order.
use mathlib.Core.Bool.{not}
use borrow.Author.Rules.{rules}
use Rattle.pile_sections.specs.Sections.{column_clear, dented_column}
use Rattle.live_sections.specs.Layers.{layers_of}
use Rattle.live_sections.proofs.SearchLaws.{column-at}
use Rattle.live_sections.proofs.dented_column.Goals as goal

pub returns : goal.returns
unfolding dented_column
returns c =
    c.first_dented.ensures (λ k. not (column_clear (layers_of c.args.rows.now) k))
    (λ n s h p. column-at (layers_of c.args.rows.now) n s (search rules))
