-- Every layer so far has its rows with the column.
use Rattle.pile_sections.specs.Sections.{layer_at, lowest_row, after_highest}
use Rattle.live_sections.specs.Layers.{layers_of}
use Rattle.live_sections.proofs.FillLaws.{Filling}
use Rattle.live_sections.proofs.column.Given as goal

abbrev pub invariant-loop-l : goal.invariant-loop-l
invariant-loop-l l =
    Filling (λ k. lowest_row (layer_at (layers_of l.rows) k) l.col) (λ k. after_highest (layer_at (layers_of l.rows) k) l.col) l.lo l.past l.l
