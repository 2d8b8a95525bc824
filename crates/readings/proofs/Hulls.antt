-- Two kinds of hull. Without edges the extremes are the cell itself, so they decide alone. A
-- flat hull has two opposite edges with opposite side values: on its line both are 0.
use native.Mathlib.Omega.{arith}
use mathlib.Core.Path.{◌≡◌, refl, sym, ap, ◌∙◌}
use mathlib.Core.Bool.{true, false, and-eq-true_iff}
use mathlib.Core.List.Memᴰ
use mathlib.Core.List.{[], ◌∷◌}
use lib.IntN.{ℤ, pos, neg_ℤ, ◌+ℤ◌, ◌-ℤ◌, ◌*ℤ◌, *ℤ_comm}
use lib.Signed.{le_z}
use lib.Ieee.{Format, binary32}
use Rattle.base.specs.Each.{all_pass, some_pass}
use Rattle.base.proofs.BelowLaws.{not-held}
use Rattle.base.proofs.Differences.{is-self, is_eq, is-unique, is-neg, is-add, is-minus, is_mul, le_iff}
use Rattle.rounding.specs.Units.{value, in_units}
use Rattle.rounding.proofs.InUnits.{units-plus, units-times}
use Rattle.chart.specs.declared.Point.{Point}
use Rattle.convexity.specs.Edges.{pairs}
use Rattle.convexity.specs.Inside.{not_negative, side_value, col_steps, row_steps, lowest_met, highest_met}
use Rattle.calls.specs.declared.Reading.{Reading}
use Rattle.std.specs.Prelude.{Ok}
use Rattle.readings.specs.declared.Located.TheVariants.{Inside, Outside, Undecided}
use Rattle.readings.specs.Sides.{PlacedEdge, edges_from, exact_side}
use Rattle.readings.specs.Located.{Held, bad_reading, between, within_extremes, exactly_inside, sided, stays_on, located_of}
use Rattle.readings.specs.Claims.{Centred}
use Rattle.readings.proofs.Agreement.{undecided-on-edge}

-- ---- one cell

le-self : (a : ℤ) → le_z a a ≡ true
le-self a = (le_iff (is-self a) (is-self a)).1 (omega arith)

le-both : (a b : ℤ) → le_z a b ≡ true → le_z b a ≡ true → b ≡ a
le-both a b h k =
    is-unique (is-self b) (is-self a) (omega (arith, (le_iff (is-self a) (is-self b)).0 h, (le_iff (is-self b) (is-self a)).0 k))

module _ (a : Point) (r : Reading) (good : bad_reading r ≡ false) (on : stays_on a [] ≡ true) where
  -- At its centre the reading is inside, and everywhere else outside
  pub lone-inside : Centred r a → located_of a [] r ≡ Ok Inside
  unfolding located_of sided within_extremes between pairs col_steps row_steps lowest_met highest_met edges_from some_pass
  lone-inside at = simp (good, on, at.col, at.row, le-self)

  pub lone-outside : (Centred r a → ⊥) → located_of a [] r ≡ Ok Outside
  unfolding located_of sided within_extremes between pairs col_steps row_steps lowest_met highest_met edges_from some_pass
  lone-outside off =
      let out : within_extremes a [] r ≡ false = not-held (within_extremes a [] r) (λ w.
      let both = (and-eq-true_iff _ _).0 w in
      let cols = (and-eq-true_iff _ _).0 both.0 in
      let rows = (and-eq-true_iff _ _).0 both.1 in
      off (record { col = le-both _ _ cols.0 cols.1; row = le-both _ _ rows.0 rows.1 })) in
      rw (good, on, out)

-- ---- a flat hull

-- The edge back has the opposite side value
back-ring : (dx dy p q a b : ℤ) → dy *ℤ a ≡ dx *ℤ b → neg_ℤ dy *ℤ (p -ℤ a) -ℤ neg_ℤ dx *ℤ (q -ℤ b) ≡ neg_ℤ (dy *ℤ p -ℤ dx *ℤ q)
back-ring dx dy p q a b e =
    is-unique
    (is-minus (is_mul (is-neg (is-self dy)) (is-minus (is-self p) (is-self a)))
    (is_mul (is-neg (is-self dx)) (is-minus (is-self q) (is-self b))))
    (is-neg (is-minus (is_mul (is-self dy) (is-self p)) (is_mul (is-self dx) (is-self q))))
    (omega (arith, is_eq (is_mul (is-self dy) (is-self a)) (is_mul (is-self dx) (is-self b)) e))

minus_plus : (z a b : ℤ) → z -ℤ (a +ℤ b) ≡ z -ℤ a -ℤ b
minus_plus z a b =
    is-unique (is-minus (is-self z) (is-add (is-self a) (is-self b))) (is-minus (is-minus (is-self z) (is-self a)) (is-self b))
    (omega arith)

back-side :
    (f : Format) (dx dy x y X Y : ℤ)
    → side_value (neg_ℤ dx) (neg_ℤ dy) (in_units f (x +ℤ dx)) (in_units f (y +ℤ dy)) X Y ≡ neg_ℤ (side_value dx dy (in_units f x) (in_units f y) X Y)
unfolding side_value
back-side f dx dy x y X Y =
    rw (units-plus f x dx, units-plus f y dy, minus_plus X (in_units f x) (in_units f dx), minus_plus Y (in_units f y) (in_units f dy))
    (back-ring dx dy (X -ℤ in_units f x) (Y -ℤ in_units f y) (in_units f dx) (in_units f dy) (units-times f dy dx
    ∙ ap (in_units f) (*ℤ_comm dy dx) ∙ sym (units-times f dx dy)))

-- On its line and between its extremes every reading is undecided
pub flat-undecided :
    (a : Point) (dx dy : ℤ) (r : Reading) → Held r → bad_reading r ≡ false →
    let es = dx ∷ dy ∷ neg_ℤ dx ∷ neg_ℤ dy ∷ [] in
    let e : PlacedEdge = record { cols = dx; rows = dy; col = pos a.col; row = pos a.row } in
    stays_on a es ≡ true → within_extremes a es r ≡ true → exact_side r e ≡ pos 0 → located_of a es r ≡ Ok Undecided
unfolding exactly_inside pairs edges_from all_pass exact_side not_negative
flat-undecided a dx dy r held good on within level =
    let X = value binary32 r.angle in
    let Y = value binary32 r.load in
    let back = back-side binary32 dx dy (pos a.col) (pos a.row) X Y ∙ ap neg_ℤ level in
    undecided-on-edge a (dx ∷ dy ∷ neg_ℤ dx ∷ neg_ℤ dy ∷ []) r held on good (simp (within, level, back)) _ (Memᴰ.head refl) level
