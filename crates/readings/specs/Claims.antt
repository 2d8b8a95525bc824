-- What is claimed of a reading that is not refused (contract 8.7). The unit is 2 ^ -149: 1/64 is 2 ^ 143 units, and 1/32 is 2 ^ 144.
use Rattle.std.specs.Prelude.{Ok, ◌^◌, ◌<◌, ◌≡◌, ◌↔◌, true, false, ℤ, pos, neg_ℤ, nat_abs, ◌-ℤ◌, T}
use mathlib.Core.List.{List, Memᴰ}
use Rattle.std.specs.Int.Signed.{le_z}
use Rattle.std.specs.Float.{binary32}
use Rattle.std.specs.Float.Ieee.{fits}
use Rattle.std.specs.Float.Ieee.Scale.{finite as is_finite}
use Rattle.rounding.specs.Units.{value, in_units}
use Rattle.chart.specs.declared.Point.{Point}
use Rattle.calls.specs.declared.Reading.{Reading}
use Rattle.readings.specs.declared.Located.TheVariants.{Inside, Outside, Undecided}
use Rattle.readings.specs.Sides.{PlacedEdge, edges_along, exact_side, computed_side}
use Rattle.readings.specs.Located.{within_extremes, exactly_inside, located_of}

-- When a reading is undecided: it lies within the extremes, every computed side value is above -1/64, and some is below 1/64
pub record Open (a : Point) (es : List ℤ) (r : Reading) : Type 0 where
  pub within : within_extremes a es r ≡ true
  pub none_far : (e : PlacedEdge) → Memᴰ e (edges_along a es) → le_z (value binary32 (computed_side r e)) (neg_ℤ (pos (2 ^ 143))) ≡ false
  pub edge : PlacedEdge
  pub met : Memᴰ edge (edges_along a es)
  pub close : le_z (pos (2 ^ 143)) (value binary32 (computed_side r edge)) ≡ false

pub record Answers (a : Point) (es : List ℤ) (r : Reading) : Type 0 where
  -- every computed side value is a finite number and a 32-bit float
  pub finite : (e : PlacedEdge) → Memᴰ e (edges_along a es) → T (is_finite (computed_side r e)) × T (fits binary32 (computed_side r e))
  -- rounding moves a side value by less than 1/64
  pub close : (e : PlacedEdge) → Memᴰ e (edges_along a es) → nat_abs (value binary32 (computed_side r e) -ℤ exact_side r e) < 2 ^ 143
  -- "inside" is said only if the reading is exactly inside, and "outside" only if it is not
  pub inside : located_of a es r ≡ Ok Inside → exactly_inside a es r ≡ true
  pub outside : located_of a es r ≡ Ok Outside → exactly_inside a es r ≡ false
  -- when the answer is "undecided"
  pub undecided : (located_of a es r ≡ Ok Undecided) ↔ Open a es r
  -- the answer is decided if all exact side values are at least 1/32, and if one is at most -1/32
  pub inner : ((e : PlacedEdge) → Memᴰ e (edges_along a es) → le_z (pos (2 ^ 144)) (exact_side r e) ≡ true) → located_of a es r ≡ Ok Undecided
      → ⊥
  pub outer : (e : PlacedEdge) → Memᴰ e (edges_along a es) → le_z (exact_side r e) (neg_ℤ (pos (2 ^ 144))) ≡ true
      → located_of a es r ≡ Ok Undecided → ⊥

-- The reading is the centre of the cell x: its numbers are the cell's column and row
pub record Centred (r : Reading) (x : Point) : Type 0 where
  pub col : value binary32 r.angle ≡ in_units binary32 (pos x.col)
  pub row : value binary32 r.load ≡ in_units binary32 (pos x.row)
