-- The walk along a taken outline's edges stays on the chart, and at a cell's centre its edges decide whether the cell is in the block. So
-- readings agree with the enclosed cells.
use Prim.Native.Nat.{◌<◌}
use mathlib.Core.Path.{◌≡◌, refl, sym, ◌∙◌}
use mathlib.Core.Logic.{inl, inr}
use mathlib.Core.Bool.{Bool, true, false, and-eq-true_iff, true≢false}
use mathlib.Core.List.{List, [], ◌∷◌}
use lib.IntN.{ℤ, pos, ◌+ℤ◌}
use Rattle.base.specs.Each.{all_pass}
use Rattle.chart.specs.Limits.{side}
use Rattle.chart.specs.declared.Point.{Point}
use Rattle.chart.specs.Outline.{Outline}
use Rattle.lattice.specs.Enclosed.{encloses}
use Rattle.convexity.specs.Edges.{Edge, pairs}
use Rattle.convexity.specs.Pieces.{edges, dent_piece}
use Rattle.convexity.specs.Shape.{NoBackStep}
use Rattle.convexity.proofs.Shape.{shape}
use Rattle.convexity.proofs.Inside.{Meets, IsCell, vertex-is-cell}
use Rattle.convexity.proofs.Theorem.{edges-answer}
use Rattle.directions.specs.CornerHull.{is_on_chart}
use Rattle.directions.proofs.OnChart.{number-on}
use Rattle.calls.specs.declared.Reading.{Reading}
use Rattle.std.specs.Prelude.{Ok}
use Rattle.readings.specs.declared.Located.TheVariants.{Inside, Outside}
use Rattle.readings.specs.Sides.{edges_from}
use Rattle.readings.specs.Located.{Held, bad_reading, ends_on, stays_on, located_of}
use Rattle.readings.specs.Claims.{Answers, Centred}
use Rattle.readings.proofs.Agreement.{answers}
use Rattle.readings.proofs.Centre.{centre-inside, centre-outside}

-- A vertex off the chart
abbrev Off : ℤ → ℤ → Type 0
Off v w = is_on_chart v w ≡ false

on_of : (b : Bool) → (b ≡ false → ⊥) → b ≡ true
on_of true h = refl
on_of false h = absurd (h refl)

none-off : (es : List Edge) (x y : ℤ) → (Meets Off es x y → ⊥) → (is_on_chart x y ≡ true) × (all_pass ends_on (edges_from es x y) ≡ true)
unfolding Meets all_pass ends_on edges_from
none-off [] x y h = (on_of _ h, refl)
none-off ((dx, dy) ∷ es) x y h =
    let rest = none-off es (x +ℤ dx) (y +ℤ dy) (λ m. h (inr m)) in
    (on_of _ (λ p. h (inl p)), (and-eq-true_iff (is_on_chart (x +ℤ dx) (y +ℤ dy)) _).1 rest)

on-cell : {v w : ℤ} → IsCell v w → is_on_chart v w ≡ true
unfolding is_on_chart
on-cell c = rw (c.col-is, c.row_is, number-on c.cell.col c.col-on, number-on c.cell.row c.row_on)

module _ (o : Outline) (straight : NoBackStep o) where
  pub edges-stay : stays_on o.start (edges o) ≡ true
  unfolding stays_on
  edges-stay =
      (and-eq-true_iff (is_on_chart (pos o.start.col) (pos o.start.row)) _).1
      (none-off (pairs (edges o)) (pos o.start.col) (pos o.start.row) λ m.
      let (v, w, c, off) = vertex-is-cell o (shape o straight) Off m in
      true≢false (sym (on-cell c) ∙ off))

  -- What is claimed of a reading holds with the edges of every outline without a back-step
  pub outline-answers : (r : Reading) → Held r → bad_reading r ≡ false → Answers o.start (edges o) r
  outline-answers r held good = answers o.start (edges o) r held edges-stay good

  module _ (smooth : dent_piece o ≡ 4) (x : Point) (c : x.col < side) (r : x.row < side) (p : Reading) (held : Held p) (at : Centred p x)
    where
      -- At a cell's centre "inside" means that the cell is enclosed, and "outside" that it is not
      pub centre-enclosed : located_of o.start (edges o) p ≡ Ok Inside → encloses o x.col x.row ≡ true
      centre-enclosed e = sym (edges-answer o straight smooth x c r) ∙ centre-inside p x at held o.start (edges o) e

      pub centre-open : located_of o.start (edges o) p ≡ Ok Outside → encloses o x.col x.row ≡ false
      centre-open e = sym (edges-answer o straight smooth x c r) ∙ centre-outside p x at held o.start (edges o) edges-stay e
