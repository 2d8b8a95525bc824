-- Every layer so far has its interval.
use Rattle.rows.specs.parts.Rows.{rows as row_of}
use Rattle.pile_sections.specs.Sections.{layer_at}
use Rattle.live_sections.specs.Layers.{layers_of}
use Rattle.live_sections.proofs.FillLaws.{Filling}
use Rattle.live_sections.proofs.row.Given as goal

abbrev pub invariant-loop-l : goal.invariant-loop-l
invariant-loop-l l =
    Filling (λ k. row_of (layer_at (layers_of l.rows) k).first l.r) (λ k. row_of (layer_at (layers_of l.rows) k).past l.r) l.lo l.past l.l
