-- For a taken outline, the cells in the hull of the corner cells are the enclosed cells: on the
-- chart the edges decide both, and neither has a cell off the chart.
use Prim.Native.Nat.{◌<◌}
use native.Mathlib.Decide.{dec_lt}
use native.Mathlib.Omega.{arith}
use mathlib.Core.Path.{◌≡◌, sym, ◌∙◌}
use mathlib.Core.Logic.{◌↔◌, inl, inr}
use mathlib.Core.Bool.{true, true≢false, and-eq-true_iff}
use mathlib.Core.List.{List}
use lib.IntN.{ℤ}
use Rattle.chart.specs.Limits.{side}
use Rattle.chart.specs.declared.Point.{Point}
use Rattle.chart.specs.declared.Nesting.{Nesting}
use Rattle.chart.specs.declared.Nesting.TheVariants.{Equal, FirstWithin, SecondWithin, Apart, Crossing}
use Rattle.chart.specs.Outline.{Outline}
use Rattle.convexity.specs.Edges.{pairs}
use Rattle.convexity.specs.Clockwise.{border}
use Rattle.convexity.specs.Pieces.{edges}
use Rattle.convexity.specs.Border.{HasEdges}
use Rattle.convexity.proofs.Inside.{IsCell}
use Rattle.convexity.proofs.AsSent.{clear_of, edges-answer-sent}
use Rattle.convexity.proofs.SameBlock.{open-off}
use Rattle.directions.specs.CornerHull.{is_on_chart}
use Rattle.directions.proofs.Theorem.{inside-iff-hull}
use Rattle.directions.proofs.Taken.{taken-passes}
use Rattle.directions.proofs.Cells.{corner-is-cell}
use Rattle.directions.proofs.OnChart.{number-on}
use Rattle.nesting.specs.Cells.{polygon, Fit, Holds, Within, Beyond, Common, SaysOf, Encloses}
use Rattle.nesting.specs.Corners.{corners_on_chart}
use Rattle.nesting.specs.Answer.{nesting}
use Rattle.nesting.proofs.CornerTests.{met_every}
use Rattle.nesting.proofs.Meet.{held_below}
use Rattle.nesting.proofs.Answer.{answer-iff}

-- ---- sets with the same cells

module _ {P P' Q Q' : Point → Type 0} where
  within_same : ((x : Point) → P x ↔ P' x) → ((x : Point) → Q x ↔ Q' x) → Within P Q → Within P' Q'
  within_same p q h x k = (q x).0 (h x ((p x).1 k))

  beyond-same : ((x : Point) → P x ↔ P' x) → ((x : Point) → Q x ↔ Q' x) → Beyond P Q → Beyond P' Q'
  beyond-same p q h = record { cell = h.cell; in_first = (p _).0 h.in_first; not_second = λ k. h.not_second ((q _).1 k) }

  common-same : ((x : Point) → P x ↔ P' x) → ((x : Point) → Q x ↔ Q' x) → Common P Q → Common P' Q'
  common-same p q h = record { cell = h.cell; in_first = (p _).0 h.in_first; in_second = (q _).0 h.in_second }

back : {P P' : Point → Type 0} → ((x : Point) → P x ↔ P' x) → (x : Point) → P' x ↔ P x
back p x = ((p x).1, (p x).0)

-- An answer says the same about them
module _ {P P' Q Q' : Point → Type 0} (p : (x : Point) → P x ↔ P' x) (q : (x : Point) → Q x ↔ Q' x) where
  pub says_same : (v : Nesting) → SaysOf P Q v → SaysOf P' Q' v
  says_same Equal h = (within_same p q h.0, within_same q p h.1)
  says_same FirstWithin h = (within_same p q h.0, beyond-same q p h.1)
  says_same SecondWithin h = (within_same q p h.0, beyond-same p q h.1)
  says_same Apart h = λ k. h (common-same (back p) (back q) k)
  says_same Crossing h = (common-same p q h.0, beyond-same p q h.1, beyond-same q p h.2)

-- ---- a taken outline

cell-on : {u v : ℤ} → IsCell u v → is_on_chart u v ≡ true
unfolding is_on_chart
cell-on c = rw (c.col-is, c.row_is) ((and-eq-true_iff _ _).1 (number-on _ c.col-on, number-on _ c.row_on))

module _ {o : Outline} {a : Point} {es : List ℤ} (h : HasEdges o a es) where
  own-fit : Fit (polygon (border o).start (edges (border o)))
  unfolding corners_on_chart
  own-fit =
      record {
        passes = taken-passes o h.reaches h.smooth;
        placed =
            met_every is_on_chart (pairs (edges (border o))) _ _ (λ u v m. cell-on (corner-is-cell (border o) (clear_of o h.reaches) u v m));
      }

  pub taken-fit : Fit (polygon a es)
  taken-fit = rw (← h.anchor, ← h.edged) own-fit

  on-chart-iff : (x : Point) → x.col < side → x.row < side → Holds (polygon (border o).start (edges (border o))) x ↔ Encloses o x
  on-chart-iff x c r =
      let same = edges-answer-sent o h.reaches h.smooth x c r in
      let iff = inside-iff-hull (border o).start (edges (border o)) x own-fit.passes in
      (λ k. sym same ∙ iff.1 k, λ k. iff.0 (same ∙ k))

  enclosed-below : (x : Point) → Encloses o x → (x.col < side) × (x.row < side)
  enclosed-below x k = (
    elim (dec_lt x.col side) [
      | yes l ↦ l
      | no l ↦ absurd (true≢false (sym k ∙ open-off o h.reaches.simple x.col x.row (inl (omega arith))))
    ],
    elim (dec_lt x.row side) [
      | yes l ↦ l
      | no l ↦ absurd (true≢false (sym k ∙ open-off o h.reaches.simple x.col x.row (inr (omega arith))))
    ],
  )

  own-iff : (x : Point) → Holds (polygon (border o).start (edges (border o))) x ↔ Encloses o x
  own-iff x = (
    λ k. let l = held_below _ own-fit x.col x.row k in (on-chart-iff x l.0 l.1).0 k,
    λ k. let l = enclosed-below x k in (on-chart-iff x l.0 l.1).1 k,
  )

  -- The cells in the hull of its corner cells are the cells that it encloses
  pub hull-iff-enclosed : (x : Point) → Holds (polygon a es) x ↔ Encloses o x
  hull-iff-enclosed x = rw (← h.anchor, ← h.edged) (own-iff x)

-- For two taken outlines, the answer names the one statement about the enclosed cells that holds
module _ {o v : Outline} {a b : Point} {es fs : List ℤ} (h : HasEdges o a es) (k : HasEdges v b fs) where
  pub blocks-iff : (n : Nesting) → SaysOf (Encloses o) (Encloses v) n ↔ (nesting (polygon a es) (polygon b fs) ≡ n)
  blocks-iff n =
      let iff = answer-iff (polygon a es) (polygon b fs) (taken-fit h) (taken-fit k) n in
      let p = hull-iff-enclosed h in
      let q = hull-iff-enclosed k in
      (λ s. iff.0 (says_same (back p) (back q) n s), λ e. says_same p q n (iff.1 e))
