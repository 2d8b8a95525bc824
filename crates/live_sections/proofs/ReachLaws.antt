-- Rows without a cell have no column, so a search among the others finds what a search of all rows would.
use Prim.Native.Nat.{ℕ, ◌+◌, ◌-◌, ◌*◌, ◌≤◌, ◌<◌}
use native.Mathlib.Decide.{dec_lt}
use native.Mathlib.Omega.{arith}
use mathlib.Core.Path.{◌≡◌, sym, ap, ◌∙◌}
use mathlib.Core.Bool.{Bool, true, false, true≢false}
use mathlib.Core.List.{List}
use lib.Dec.{leb, ltb}
use borrow.Author.Tests.{leb-true, ltb-true, lt-ltb}
use Rattle.base.specs.Below.{first}
use Rattle.base.proofs.BelowLaws.{and_left, and_right, not-held, first-before, first-none, first-none-at}
use Rattle.chart.specs.Limits.{side}
use Rattle.rows.specs.parts.Rows.{rows as row_of}
use Rattle.spans.specs.declared.Spans.{Spans}
use Rattle.sections.specs.declared.Section.{Section}
use Rattle.sections.specs.Sections.{layers, numbers}
use Rattle.pile_sections.specs.Sections.{layer_at, in_row}
use Rattle.pile_sections.proofs.RunLaws.{listed_at}
use Rattle.windows.specs.Windows.{window}
use Rattle.span_list.specs.SpanList.{slot_bytes}
use Rattle.live_sections.specs.Layers.{layers_of}
use Rattle.live_sections.specs.parts.Reach.{has_cell, bottom_of, top_of, reach_of, NoneBelow, NoneFrom}
use Rattle.live_sections.proofs.LayerLaws.{spans-are}

module _ (begins ends : List ℕ) (c : ℕ) where
  -- The rows with the column, from the lowest up and from the highest down
  abbrev up : ℕ → Bool
  up r = in_row begins ends c r

  abbrev down : ℕ → Bool
  down k = in_row begins ends c (side - 1 - k)

  row_has : (r : ℕ) → in_row begins ends c r ≡ true → has_cell begins ends r ≡ true
  unfolding in_row has_cell
  row_has r e =
      let a : row_of begins r ≤ c = leb-true (row_of begins r) c (and_left (leb (row_of begins r) c) (ltb c (row_of ends r)) e) in
      let b : c < row_of ends r = ltb-true c (row_of ends r) (and_right (leb (row_of begins r) c) (ltb c (row_of ends r)) e) in
      lt-ltb (row_of begins r) (row_of ends r) (omega arith)

  none_has : (r : ℕ) → has_cell begins ends r ≡ false → in_row begins ends c r ≡ false
  none_has r e = not-held (in_row begins ends c r) (λ t. true≢false (sym (row_has r t) ∙ e))

  bottom-none : NoneBelow begins ends c (first (λ r. has_cell begins ends r) side)
  unfolding NoneBelow
  bottom-none r h = none_has r (first-before (λ r. has_cell begins ends r) side r h)

  top-none : NoneFrom begins ends c (side - first (λ k. has_cell begins ends (side - 1 - k)) side)
  unfolding NoneFrom
  top-none r h l =
      let back : side - 1 - (side - 1 - r) ≡ r = omega arith in
      let none = first-before (λ k. has_cell begins ends (side - 1 - k)) side (side - 1 - r) (omega arith) in
      none_has r (ap (has_cell begins ends) (sym back) ∙ none)

  -- The lowest row with the column
  pub low-none : (n : ℕ) → n ≡ first up side → NoneBelow begins ends c n
  unfolding NoneBelow
  low-none n e r h = first-before up side r (omega (arith, e))

  -- A search that starts at the first row that may have it
  pub search-start : (n : ℕ) → NoneBelow begins ends c n → first up n ≡ n
  unfolding NoneBelow
  search-start n none = first-none up n none

  pub search-end : (n t : ℕ) → first up n ≡ n → t ≤ n → NoneFrom begins ends c t → first up side ≡ side
  unfolding NoneFrom
  search-end n t e h none =
      first-none up side (λ i l. elim (dec_lt i n) [ yes b ↦ first-none-at up n e i b | no b ↦ none i (omega arith) l ])

  -- The same from the top row down
  pub back_start : (t : ℕ) → t ≤ side → NoneFrom begins ends c t → first down (side - t) ≡ side - t
  unfolding NoneFrom
  back_start t h none = first-none down (side - t) (λ i l. none (side - 1 - i) (omega arith) (omega arith))

  pub back_end : (k n : ℕ) → first down k ≡ k → side - n ≤ k → NoneBelow begins ends c n → first down side ≡ side
  unfolding NoneBelow
  back_end k n e h none =
      first-none down side (λ i l. elim (dec_lt i k) [ yes b ↦ first-none-at down k e i b | no b ↦ none (side - 1 - i) (omega arith) ])

-- ---- in the list of all layers

module _ (rows : List ℕ) (l : ℕ) (h : l < layers) (begins ends : List ℕ) (b : begins ≡ window (slot_bytes * l) side rows)
    (e : ends ≡ window (slot_bytes * l + side) side rows) where
  abbrev layer : Spans
  layer = layer_at (layers_of rows) l

  pub bottom-is : first (λ r. has_cell begins ends r) side ≡ bottom_of layer
  unfolding bottom_of
  bottom-is = ap (λ (s : Spans). first (λ r. has_cell s.first s.past r) side) (sym (spans-are rows l h begins ends b e))

  pub top-is : side - first (λ k. has_cell begins ends (side - 1 - k)) side ≡ top_of layer
  unfolding top_of
  top-is =
      ap (λ (s : Spans). side - first (λ k. has_cell s.first s.past (side - 1 - k)) side) (sym (spans-are rows l h begins ends b e))

  module _ (s : Section) (g : s ≡ reach_of (layers_of rows)) (c : ℕ) where
    from_is : numbers s.lo l ≡ bottom_of layer
    unfolding reach_of
    from_is = ap (λ (x : Section). numbers x.lo l) g ∙ listed_at (λ k. bottom_of (layer_at (layers_of rows) k)) l h

    to_is : numbers s.past l ≡ top_of layer
    unfolding reach_of
    to_is = ap (λ (x : Section). numbers x.past l) g ∙ listed_at (λ k. top_of (layer_at (layers_of rows) k)) l h

    pub from-none : NoneBelow begins ends c (numbers s.lo l)
    from-none = rw (from_is ∙ sym bottom-is) (bottom-none begins ends c)

    pub to_none : NoneFrom begins ends c (numbers s.past l)
    to_none = rw (to_is ∙ sym top-is) (top-none begins ends c)
