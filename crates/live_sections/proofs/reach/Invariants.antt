-- Every layer so far has its lowest row with a cell and the row past its highest.
use Rattle.pile_sections.specs.Sections.{layer_at}
use Rattle.live_sections.specs.Layers.{layers_of}
use Rattle.live_sections.specs.parts.Reach.{bottom_of, top_of}
use Rattle.live_sections.proofs.FillLaws.{Filling}
use Rattle.live_sections.proofs.reach.Given as goal

abbrev pub invariant-loop-l : goal.invariant-loop-l
invariant-loop-l l =
    Filling (λ k. bottom_of (layer_at (layers_of l.rows) k)) (λ k. top_of (layer_at (layers_of l.rows) k)) l.lo l.past l.l
