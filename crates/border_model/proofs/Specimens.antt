-- The checker computes the reply for every row of the table, and one law turns that into what a row says.
use mathlib.Core.Path.{◌≡◌, refl}
use mathlib.Core.Bool.{true}
use mathlib.Core.List.{Memᴰ}
use Rattle.base.specs.Each.{all_pass}
use Rattle.base.specs.Same.{sameℤ, sameℤs}
use Rattle.base.proofs.EachLaws.{all-at}
use Rattle.words.specs.Counted
use Rattle.chart.specs.Same.{same_fields}
use Rattle.chart.proofs.Tables.{same-fields}
use Rattle.convexity.specs.Edges.{pairs}
use Rattle.convexity.specs.Inside.{col_steps, row_steps, total}
use Rattle.convexity.specs.parts.InFrame.{spell}
use Rattle.convexity.specs.FromEdges
use Rattle.directions.specs.Round.{cross, positive, is_nil, first_half, precedes}
use Rattle.directions.specs.Increasing.{some_zero, sums_to_zero, precedes_first, rising, bad_edges}
use Rattle.polygon.specs.Loose.{bad_list, bad_cell}
use Rattle.verdict.proofs.Computes.{computes}
use Rattle.border_model.specs.Outlined.{taken_at, taken_as, outlined}
use Rattle.border_model.specs.Traced.{letters_in, traced_of, traced_fields}
use Rattle.border_model.specs.Specimens.{Row, rows, answered}

computed : all_pass answered rows ≡ true
unfolding all_pass answered rows same_fields sameℤ sameℤs col_steps row_steps total cross positive is_nil first_half precedes some_zero sums_to_zero
    precedes_first rising pairs bad_edges bad_list bad_cell Counted.listed Counted.counted_letter Counted.christoffel_word Counted.divides_both
    Counted.common_up_to Counted.common Counted.edge_word Counted.edges_word spell FromEdges.quadrant_of FromEdges.run_in FromEdges.rise_in
    FromEdges.sizes_in FromEdges.piece_from FromEdges.letters_from computes taken_at taken_as outlined letters_in traced_of traced_fields
computed = refl

-- The borders of one cell, H2 and H3, and refusals 10, 11 and 16 to 18
pub rows-hold : (h : Row) → Memᴰ h rows → traced_fields (traced_of h.anchor h.edges h.buffer) ≡ h.fields
unfolding answered
rows-hold h m = same-fields _ _ (all-at answered rows computed h m)
