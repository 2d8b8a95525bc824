-- The checker computes the answer of every row of the table, so each row holds by computation.
use mathlib.Core.Path.{◌≡◌, refl}
use mathlib.Core.List.{map}
use Rattle.base.specs.Below.{further, first, some_below}
use Rattle.convexity.specs.Edges.{pairs}
use Rattle.convexity.specs.Inside.{not_negative, minℤ, maxℤ, side_value, none_outside, col_steps, row_steps, lowest_met, highest_met, within}
use Rattle.convexity.specs.Inside.{inside_at}
use Rattle.nesting.specs.Corners.{every_corner, corners_inside}
use Rattle.nesting.specs.Rows.{edge_from, edge_to, edges_from, edges_to, start_at, end_after, run_from, run_to, row_meets, rows_meet}
use Rattle.nesting.specs.Answer.{by_tests, lies_within, nesting}
use Rattle.nesting.specs.Specimens.{Pair, specimens}

pub specimens-hold : map (λ (h : Pair). nesting h.first h.second) specimens ≡ map (λ (h : Pair). h.answer) specimens
unfolding specimens pairs further first some_below not_negative minℤ maxℤ side_value none_outside col_steps row_steps lowest_met highest_met within
    inside_at every_corner corners_inside edge_from edge_to edges_from edges_to start_at end_after run_from run_to row_meets rows_meet by_tests lies_within
    nesting
specimens-hold = refl
