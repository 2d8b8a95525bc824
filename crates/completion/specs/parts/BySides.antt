-- The completion as it is computed, from one walk along the letters as sent.
use Rattle.chart.specs.Outline.{Outline}
use Rattle.completion.specs.RowsOutline.{outline_of}
use Rattle.completion.specs.HullRows.{hull_left, hull_right}
use Rattle.completion.specs.Sides.{first_side, last_side, lowest_corner, highest_corner}

unfoldable pub complete_by_sides : Outline → Outline
complete_by_sides o =
    outline_of (hull_left (first_side o) (lowest_corner o) (highest_corner o)) (hull_right (last_side o) (lowest_corner o) (highest_corner o))
    (lowest_corner o) (highest_corner o)
