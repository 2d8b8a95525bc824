-- What the reply to a reading says, for every anchor and every list of edges (contract 7.10 and 8.7). The unit is 2 ^ -149.
use Rattle.std.specs.Prelude.{◌^◌, ◌≡◌, ◌↔◌, true, false, ◌&&◌, ℤ, pos, neg_ℤ}
use mathlib.Core.List.{List, Memᴰ}
use Rattle.std.specs.Int.Signed.{le_z}
use Rattle.chart.specs.Fields as words
use Rattle.chart.specs.declared.Point.{Point}
use Rattle.chart.specs.declared.Fields.{Fields}
use Rattle.calls.specs.declared.Reading.{Reading}
use Rattle.readings.specs.Sides.{PlacedEdge, edges_along, exact_side}
use Rattle.readings.specs.Located.{Held, exactly_inside, stays_on}
use Rattle.readings.specs.Claims.{Open}

pub record ReadingNamed (a : Point) (es : List ℤ) (x : Reading) (f : Fields) : Type 0 where
  -- both numbers are 32-bit floats
  pub held : Held x
  -- "inside" only if the reading is exactly inside
  pub inside : f.word ≡ words.inside → exactly_inside a es x ≡ true
  -- "outside" only if it is not exactly inside, or the walk along the edges leaves the chart, as no taken outline's does
  pub outside : f.word ≡ words.outside → (stays_on a es && exactly_inside a es x) ≡ false
  -- "undecided" exactly when the reading is not refused, the walk stays on the chart, and the reading is open
  pub undecided : (f.word ≡ words.undecided) ↔ ((f.number ≡ 0) × ((stays_on a es ≡ true) × Open a es x))
  -- never if all exact side values are at least 1/32, nor if one is at most -1/32
  pub inner : f.word ≡ words.undecided
      → ((e : PlacedEdge) → Memᴰ e (edges_along a es) → le_z (pos (2 ^ 144)) (exact_side x e) ≡ true) → ⊥
  pub outer : f.word ≡ words.undecided → (e : PlacedEdge) → Memᴰ e (edges_along a es)
      → le_z (exact_side x e) (neg_ℤ (pos (2 ^ 144))) ≡ true → ⊥
