-- The checker computes the answer of every row of the table, and one law turns the computed test into the row's statement.
use mathlib.Core.Path.{◌≡◌, refl}
use mathlib.Core.Bool.{true}
use mathlib.Core.List.{◌++◌, Memᴰ}
use Rattle.chart.specs.Fields.{position_fields}
use Rattle.chart.specs.Same.{same_fields}
use Rattle.base.specs.Each.{all_pass}
use Rattle.base.proofs.EachLaws.{all-at}
use Rattle.chart.proofs.Tables.{same-fields}
use Rattle.convexity.specs.Edges.{pairs}
use Rattle.convexity.specs.Inside.{not_negative, minℤ, maxℤ, side_value, none_outside, col_steps, row_steps, total, lowest_met, highest_met}
use Rattle.convexity.specs.Inside.{within, inside_at, inside_edges}
use Rattle.directions.specs.Round.{cross, positive, is_nil, first_half, precedes}
use Rattle.directions.specs.Increasing.{some_zero, sums_to_zero, precedes_first, rising, bad_edges}
use Rattle.polygon.specs.Loose.{bad_list, bad_cell, loose_of}
use Rattle.polygon.specs.Specimens.{Query, queries, passing, turned_back, answered}

queried : all_pass answered (queries ++ (passing ++ turned_back)) ≡ true
unfolding all_pass answered same_fields queries passing turned_back not_negative minℤ maxℤ side_value none_outside col_steps row_steps total lowest_met
    highest_met within inside_at inside_edges cross positive is_nil first_half precedes some_zero sums_to_zero precedes_first rising pairs bad_edges
    bad_list bad_cell loose_of
queried = refl

-- The loose queries with the edges of H2 and H3, with lists that pass refusal 16 and with lists that do not
pub queries-hold : (h : Query) → Memᴰ h (queries ++ (passing ++ turned_back))
    → position_fields (loose_of h.anchor h.edges h.cell) ≡ h.fields
unfolding answered
queries-hold h m = same-fields _ _ (all-at answered (queries ++ (passing ++ turned_back)) queried h m)
