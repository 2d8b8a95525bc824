-- The checker computes the reply for every row of the table, and one law turns that into what a row says. A side value shows that
-- the bound 1/64 cannot be replaced by a half of it.
use Prim.Native.Nat.{◌^◌}
use mathlib.Core.Path.{◌≡◌, refl}
use mathlib.Core.Bool.{true}
use mathlib.Core.List.{Memᴰ}
use lib.Dec.{ltb}
use lib.IntN.{pos, negsuc, nat_abs, ◌-ℤ◌}
use lib.Ieee.{binary32, of_bits, of_int, sub, mul, le, lt}
use Rattle.base.specs.Each.{all_pass, some_pass}
use Rattle.base.proofs.EachLaws.{all-at}
use Rattle.rounding.specs.Units.{negative, units, value, in_units}
use Rattle.chart.specs.Same.{same_fields}
use Rattle.chart.proofs.Tables.{same-fields}
use Rattle.convexity.specs.Edges.{pairs}
use Rattle.convexity.specs.Inside.{minℤ, maxℤ, side_value, col_steps, row_steps, lowest_met, highest_met}
use Rattle.directions.specs.CornerHull.{chart_number, is_on_chart}
use Rattle.readings.specs.Sides.{PlacedEdge, edges_from, exact_side, computed_side}
use Rattle.readings.specs.Located.{bad_number, bad_reading, between, within_extremes, far, near, sided, ends_on, stays_on, located_of}
use Rattle.readings.specs.Located.{reading_of}
use Rattle.calls.specs.Replies.{reply_fields}
use Rattle.readings.specs.Replies.{located_reply}
use Rattle.readings.specs.Specimens.{Asked, specimens, answered}

computed : all_pass answered specimens ≡ true
unfolding all_pass some_pass answered specimens same_fields negative units value in_units minℤ maxℤ pairs col_steps row_steps lowest_met highest_met
    edges_from computed_side of_bits of_int sub mul le lt bad_number bad_reading between within_extremes far near sided chart_number is_on_chart ends_on
    stays_on located_of reading_of located_reply reply_fields
computed = refl

pub specimens-hold : (h : Asked) → Memᴰ h specimens
    → reply_fields (located_reply (located_of h.anchor h.edges (reading_of h.angle h.load))) ≡ h.fields
unfolding answered
specimens-hold h m = same-fields _ _ (all-at answered specimens computed h m)

-- The edge (-211, -250) from the cell (251, 250), which stays on the chart, at (1.7848.., 119.0557..): the error is more than 1/128,
-- 2 ^ 142 units
half-too-small :
    let r = reading_of 0x3fe4_74c1 0x42ee_1c8d in
    let e : PlacedEdge = record { cols = negsuc 210; rows = negsuc 249; col = pos 251; row = pos 250 } in
    ltb (2 ^ 142) (nat_abs (value binary32 (computed_side r e) -ℤ exact_side r e)) ≡ true
unfolding negative units value in_units reading_of computed_side exact_side side_value of_bits of_int sub mul
half-too-small = refl
