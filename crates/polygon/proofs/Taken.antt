-- The list and the anchor of a taken outline meet neither 10 nor 11: it has two numbers for
-- each of at most 100 edges, and its anchor is an enclosed cell.
use Prim.Native.Nat.{ℕ, ◌*◌, ◌<◌, ◌%◌}
use native.Mathlib.Nat.{mul-mod_right}
use native.Mathlib.Decide.{dec_lt}
use native.Mathlib.Omega.{arith}
use mathlib.Core.Path.{◌≡◌, sym, ap, ◌∙◌}
use mathlib.Core.Logic.{inl, inr}
use mathlib.Core.Bool.{true≢false, false}
use mathlib.Core.List.{List}
use lib.ListN.{length}
use lib.Dec.{eqb, leb, ltb}
use lib.IntN.{ℤ}
use borrow.Author.Tests.{le-ltb, lt-leb, ne_eqb}
use Rattle.base.proofs.BelowLaws.{or-false-iff}
use Rattle.chart.specs.Limits.{side, longest_list}
use Rattle.chart.specs.declared.Point.{Point}
use Rattle.chart.specs.Outline.{Outline}
use Rattle.convexity.specs.Clockwise.{border}
use Rattle.convexity.specs.Pieces.{edge_count}
use Rattle.convexity.specs.Border.{HasEdges}
use Rattle.convexity.proofs.Bounds.{edges-length}
use Rattle.convexity.proofs.EdgeBound.{edges_fit}
use Rattle.convexity.proofs.Border.{border-anchor}
use Rattle.convexity.proofs.SameBlock.{open-off}
use Rattle.polygon.specs.Loose.{bad_list, bad_cell}

module _ {o : Outline} {a : Point} {es : List ℤ} (h : HasEdges o a es) where
  listed-size : length es ≡ 2 * edge_count (border o)
  listed-size = ap length (sym h.edged) ∙ edges-length (border o)

  pub taken-listed : bad_list es ≡ false
  unfolding bad_list
  taken-listed =
      let even : length es % 2 ≡ 0 = ap (λ (m : ℕ). m % 2) listed-size ∙ mul-mod_right 2 (edge_count (border o)) in
      (or-false-iff (eqb (length es % 2) 1) (ltb longest_list (length es))).1 (
        ne_eqb (length es % 2) 1 (λ e. omega arith),
        le-ltb longest_list (length es) (omega (arith, listed-size, edges_fit o h.reaches h.smooth)),
      )

  -- The anchor is a cell of the block, so it is on the chart
  on_chart : (a.col < side) × (a.row < side)
  on_chart =
      let in_block = (border-anchor h).enclosed in
      let simple = h.reaches.simple in (
        elim (dec_lt a.col side) [
          | yes l ↦ l
          | no l ↦ absurd (true≢false (sym in_block ∙ open-off o simple a.col a.row (inl (omega arith))))
        ],
        elim (dec_lt a.row side) [
          | yes l ↦ l
          | no l ↦ absurd (true≢false (sym in_block ∙ open-off o simple a.col a.row (inr (omega arith))))
        ],
      )

  pub taken-anchored : bad_cell a ≡ false
  unfolding bad_cell
  taken-anchored =
      (or-false-iff (leb side a.col) (leb side a.row)).1 (lt-leb side a.col on_chart.0, lt-leb side a.row on_chart.1)
