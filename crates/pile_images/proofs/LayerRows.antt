-- The rows of a taken outline are those of its block, so its border goes round them.
use Prim.Native.Nat.{ℕ, suc, pred, ◌-◌, ◌≤◌, ◌<◌}
use native.Mathlib.Omega.{arith}
use mathlib.Core.Path.{◌≡◌, sym, ap, ◌∙◌}
use mathlib.Core.Logic.{◌↔◌}
use mathlib.Core.Bool.{Bool, true, ◌&&◌}
use lib.Dec.{leb, ltb}
use borrow.Author.Tests.{lt-ltb, ltb-true}
use Rattle.base.proofs.BelowLaws.{in-interval, same_test, first-same}
use Rattle.chart.specs.Limits.{side}
use Rattle.chart.specs.Outline.{Outline, outline, at}
use Rattle.chart.specs.Fields.{verdict_fields}
use Rattle.lattice.specs.Refusals.{Simple}
use Rattle.rows.specs.parts.Rows.{rows}
use Rattle.convexity.specs.Clockwise.{border, block}
use Rattle.verdict.specs.Verdict.{verdict_of}
use Rattle.completion.specs.Complete.{row_marked, first_cell, past_cell, first_row, past_row}
use Rattle.completion.specs.parts.Written.{written_from}
use Rattle.completion.proofs.BlockEnds.{JoinedUp, block-joined, row-marked, marked_row, some-cell, cell-after, cell-before, cell-first}
use Rattle.completion.proofs.BlockEnds.{cell-last}
use Rattle.completion.proofs.OwnRows.{own-rows}
use Rattle.hull_rows.specs.parts.Ends.{Lowest}
use Rattle.spans.specs.declared.Spans.{Spans}
use Rattle.spans.specs.Spans.{in_spans}
use Rattle.live_sections.specs.parts.Reach.{has_cell, bottom_of, top_of}

module _ (s : Spans) (marked : ℕ → ℕ → Bool) (j : JoinedUp marked) (exact : (c r : ℕ) → in_spans s c r ≡ marked c r) where
  in-row : (c r : ℕ) → r < side → (marked c r ≡ true) ↔ ((rows s.first r ≤ c) × (c < rows s.past r))
  unfolding in_spans
  in-row c r l =
      let e : (leb (rows s.first r) c && ltb c (rows s.past r)) ≡ marked c r = rw (lt-ltb r side l) at (exact c r) in
      let f = in-interval (rows s.first r) (rows s.past r) c in
      (λ m. f.0 (e ∙ m), λ k. sym e ∙ f.1 k)

  -- A row has a cell in the table exactly if it has a marked one
  row_has : (r : ℕ) → r < side → has_cell s.first s.past r ≡ row_marked marked r
  unfolding has_cell
  row_has r l =
      same_test (has_cell s.first s.past r) (row_marked marked r) (
        λ e. (rows s.first r, (in-row (rows s.first r) r l).1 (omega arith, ltb-true _ _ e)),
        λ (c, m). let (a, b) = (in-row c r l).0 m in lt-ltb (rows s.first r) (rows s.past r) (omega arith),
      )
      (λ e. marked_row marked j r e, λ (c, m). row-marked marked j c r m)

  pub bottom-row : bottom_of s ≡ first_row marked
  unfolding bottom_of first_row
  bottom-row = first-same (λ r. has_cell s.first s.past r) (row_marked marked) side row_has

  pub top-row : top_of s ≡ past_row marked
  unfolding top_of past_row
  top-row =
      ap (λ (n : ℕ). side - n)
      (first-same (λ k. has_cell s.first s.past (side - 1 - k)) (λ r. row_marked marked (side - suc r)) side
      (λ k l. let e : side - 1 - k ≡ side - suc k = omega arith in
      ap (has_cell s.first s.past) e ∙ row_has (side - suc k) (omega arith)))

  module _ (r : ℕ) (low : first_row marked ≤ r) (high : r < past_row marked) where
    on_chart : r < side
    on_chart = let (c, m) = some-cell marked j r low high in (j.on_chart c r m).1

    pub first-is : rows s.first r ≡ first_cell marked r
    first-is =
        let (c, m) = some-cell marked j r low high in
        let (a, b) = (in-row c r on_chart).0 m in
        let (d, e) = (in-row (first_cell marked r) r on_chart).0 (cell-first marked j c r m) in
        omega (arith, cell-after marked j (rows s.first r) r ((in-row (rows s.first r) r on_chart).1 (omega arith, omega arith)))

    pub past_is : rows s.past r ≡ past_cell marked r
    past_is =
        let (c, m) = some-cell marked j r low high in
        let (a, b) = (in-row c r on_chart).0 m in
        let (d, e) = (in-row (pred (past_cell marked r)) r on_chart).0 (cell-last marked j c r m) in
        omega (
          arith,
          cell-before marked j c r m,
          cell-before marked j (pred (rows s.past r)) r ((in-row (pred (rows s.past r)) r on_chart).1 (omega arith, omega arith)),
        )

-- So the border goes round the table's rows
module _ (o : Outline) (h : Simple o) (taken : (verdict_fields (verdict_of o)).number ≡ 0) (s : Spans)
    (exact : (c r : ℕ) → in_spans s c r ≡ block o c r) where
  pub border-round : (b t : ℕ) → b ≡ bottom_of s → t ≡ top_of s → (m : ℕ) → Lowest (rows s.first) b t m
      → border o ≡ outline (at (rows s.first m) m) (written_from (rows s.first) (rows s.past) b t m)
  border-round b t d e m w =
      let j = block-joined o h in
      let low = d ∙ bottom-row s (block o) j exact in
      let high = e ∙ top-row s (block o) j exact in
      own-rows o h taken (rows s.first) (rows s.past) (first-is s (block o) j exact) (past_is s (block o) j exact) m
      (omega (arith, low, w.low)) (omega (arith, high, w.high))
      (λ r k l. w.least r (omega (arith, low)) (omega (arith, high))) (λ r k l. w.lowest r (omega (arith, low)) l)
      ∙ sym (λ i. outline (at (rows s.first m) m) (written_from (rows s.first) (rows s.past) (low i) (high i) m))
