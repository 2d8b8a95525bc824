-- At a cell's centre, exactly inside is the rule of the edges for the cell: every
-- number is a whole multiple of 1, and a common factor keeps order and sign.
use Prim.Native.Nat.{◌^◌, ◌<◌}
use native.Mathlib.Nat.{le_of_suc-le-suc}
use mathlib.Core.Path.{◌≡◌, refl, sym, ap, ap₂, ◌∙◌}
use mathlib.Core.Bool.{true, false, ◌&&◌}
use mathlib.Core.List.{List, [], ◌∷◌}
use lib.IntN.{ℤ, pos, ◌+ℤ◌, ◌-ℤ◌, ◌*ℤ◌, zero-*ℤ}
use lib.Signed.{le_z}
use lib.Ieee.{Format, binary32, low, of_int}
use Rattle.base.specs.Each.{all_pass}
use Rattle.rounding.specs.Units.{in_units}
use Rattle.rounding.proofs.InUnits.{units-minus, units-times, units-le}
use Rattle.chart.specs.Limits.{side}
use Rattle.chart.specs.declared.Point.{Point}
use Rattle.convexity.specs.Edges.{Edge, pairs}
use Rattle.convexity.specs.Inside.{not_negative, side_value, none_outside, within, inside_at, inside_edges}
use Rattle.polygon.proofs.Integers.{not-negative-machine}
use Rattle.calls.specs.declared.Reading.{Reading}
use Rattle.std.specs.Prelude.{Ok}
use Rattle.readings.specs.declared.Located.TheVariants.{Inside, Outside}
use Rattle.readings.specs.Sides.{edges_from, exact_side}
use Rattle.readings.specs.Located.{Held, between, within_extremes, exactly_inside, stays_on, located_of}
use Rattle.readings.specs.Claims.{Centred}
use Rattle.readings.proofs.Numbers.{small_is}
use Rattle.readings.proofs.Agreement.{inside-exact, outside-exact}

ones-side :
    (f : Format) (dx dy x y c r : ℤ)
    → side_value dx dy (in_units f x) (in_units f y) (in_units f c) (in_units f r) ≡ in_units f (side_value dx dy x y c r)
unfolding side_value
ones-side f dx dy x y c r =
    rw (
      units-minus f c x,
      units-minus f r y,
      units-times f dy (c -ℤ x),
      units-times f dx (r -ℤ y),
    ) (units-minus f (dy *ℤ (c -ℤ x)) (dx *ℤ (r -ℤ y)))

ones-negative : (f : Format) (z : ℤ) → not_negative (in_units f z) ≡ not_negative z
unfolding in_units
ones-negative f z =
    sym (not-negative-machine (in_units f z)) ∙ ap (λ n. le_z n (in_units f z)) (sym (zero-*ℤ (pos (2 ^ low f)))) ∙ units-le f (pos 0) z
    ∙ not-negative-machine z

-- ---- the reading at the centre of a cell

-- There is one for every cell of the chart
pub centre-of : (x : Point) → x.col < side → x.row < side
    → Centred (record { angle = of_int binary32 (pos x.col); load = of_int binary32 (pos x.row) }) x
centre-of x c r = record { col = small_is (pos x.col) (le_of_suc-le-suc c); row = small_is (pos x.row) (le_of_suc-le-suc r) }

module _ (r : Reading) (x : Point) (at : Centred r x) where
  side-centre : (dx dy u v : ℤ)
      → not_negative (exact_side r (record { cols = dx; rows = dy; col = u; row = v }))
      ≡ not_negative (side_value dx dy u v (pos x.col) (pos x.row))
  unfolding exact_side
  side-centre dx dy u v =
      rw (
        at.col,
        at.row,
        ones-side binary32 dx dy u v (pos x.col) (pos x.row),
      )
      (ones-negative binary32 (side_value dx dy u v (pos x.col) (pos x.row)))

  sides-centre :
      (es : List Edge) (u v : ℤ)
      → all_pass (λ e. not_negative (exact_side r e)) (edges_from es u v) ≡ none_outside es u v (pos x.col) (pos x.row)
  unfolding all_pass edges_from none_outside
  sides-centre [] u v = refl
  sides-centre ((dx, dy) ∷ es) u v = ap₂ ◌&&◌ (side-centre dx dy u v) (sides-centre es (u +ℤ dx) (v +ℤ dy))

  -- Exactly inside is the rule of the edges
  pub centre-exact : (a : Point) (es : List ℤ) → exactly_inside a es r ≡ inside_edges a es x
  unfolding exactly_inside within_extremes between inside_edges inside_at within
  centre-exact a es = simp (at.col, at.row, units-le, sides-centre (pairs es) (pos a.col) (pos a.row))

  module _ (held : Held r) (a : Point) (es : List ℤ) where
    pub centre-inside : located_of a es r ≡ Ok Inside → inside_edges a es x ≡ true
    centre-inside e = sym (centre-exact a es) ∙ inside-exact a es r held e

    pub centre-outside : stays_on a es ≡ true → located_of a es r ≡ Ok Outside → inside_edges a es x ≡ false
    centre-outside on e = sym (centre-exact a es) ∙ outside-exact a es r held on e
