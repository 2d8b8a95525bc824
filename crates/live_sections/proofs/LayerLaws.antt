-- A layer's two halves are windows of the list, so its numbers are read there.
use Prim.Native.Nat.{ℕ, ◌+◌, ◌-◌, ◌*◌, ◌≤◌, ◌<◌}
use native.Mathlib.Nat.{zero-add}
use mathlib.Core.Path.{◌≡◌, sym, ap, ap₂, ◌∙◌}
use mathlib.Core.List.{List, []}
use lib.ListN.{get_or}
use Rattle.base.specs.Below.{first}
use Rattle.chart.specs.Limits.{side}
use Rattle.rows.specs.parts.Rows.{rows as row_of}
use Rattle.spans.specs.declared.Spans.{Spans}
use Rattle.sections.specs.Sections.{layers}
use Rattle.pile_sections.specs.Sections.{layer_at, in_row, lowest_row, after_highest}
use Rattle.pile_sections.specs.Runs.{RowFits}
use Rattle.windows.specs.Windows.{window}
use Rattle.windows.proofs.Slots.{slots_at}
use Rattle.span_list.specs.SpanList.{slot_bytes, spans_at}
use Rattle.span_list.proofs.SlotLaws.{first-at, past-at}
use Rattle.live_sections.specs.Layers.{layers_of}

pub layer-read : (rows : List ℕ) (l : ℕ) → l < layers → layer_at (layers_of rows) l ≡ spans_at rows l
unfolding layers_of
layer-read rows l h = slots_at (spans_at rows) 0 layers l (record { first = []; past = [] }) h ∙ ap (spans_at rows) (zero-add l)

-- The numbers of a row
module _ (rows : List ℕ) (l : ℕ) (h : l < layers) where
  pub row_first : (r : ℕ) → r < side → row_of (layer_at (layers_of rows) l).first r ≡ get_or rows (slot_bytes * l + r) 0
  row_first r k = ap (λ (s : Spans). row_of s.first r) (layer-read rows l h) ∙ first-at rows l r k

  pub row-past : (r : ℕ) → r < side → row_of (layer_at (layers_of rows) l).past r ≡ get_or rows (slot_bytes * l + r + side) 0
  row-past r k = ap (λ (s : Spans). row_of s.past r) (layer-read rows l h) ∙ past-at rows l r k

-- In a list of bytes every row ends on the chart
pub bytes_fit : (rows : List ℕ) → ((i : ℕ) → get_or rows i 0 ≤ side) → (r : ℕ) → r < side → RowFits (layers_of rows) r
bytes_fit rows bytes r k l h = rw (row-past rows l h r k) (bytes (slot_bytes * l + r + side))

-- The two halves, and the rows with a column
module _ (rows : List ℕ) (l : ℕ) (h : l < layers) (begins ends : List ℕ) (b : begins ≡ window (slot_bytes * l) side rows)
    (e : ends ≡ window (slot_bytes * l + side) side rows) where
  pub spans-are : layer_at (layers_of rows) l ≡ record { first = begins; past = ends }
  unfolding spans_at
  spans-are = layer-read rows l h ∙ ap₂ (λ (x y : List ℕ). record { first = x; past = y }) (sym b) (sym e)

  pub column-low : (c : ℕ) → first (λ r. in_row begins ends c r) side ≡ lowest_row (layer_at (layers_of rows) l) c
  unfolding lowest_row
  column-low c = ap (λ (s : Spans). first (λ r. in_row s.first s.past c r) side) (sym spans-are)

  pub column-high : (c : ℕ) → side - first (λ k. in_row begins ends c (side - 1 - k)) side ≡ after_highest (layer_at (layers_of rows) l) c
  unfolding after_highest
  column-high c = ap (λ (s : Spans). side - first (λ k. in_row s.first s.past c (side - 1 - k)) side) (sym spans-are)
