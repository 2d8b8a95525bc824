-- The rows of several outlines side by side in one list of bytes. Slot s has 510
-- bytes: the first columns of its 255 rows, then the columns past the last.
use Rattle.std.specs.Prelude.{ℕ, ◌+◌, ◌*◌, ◌≡◌, List, length, get_or}
use Rattle.std.proofs.Math.Seq.{paste}
use Rattle.chart.specs.Limits.{side}
use Rattle.spans.specs.declared.Spans.{Spans}
use Rattle.windows.specs.Windows.{window}
use Rattle.span_list.specs.declared.Ends.{Ends}

-- How many bytes a slot has
abbrev pub slot_bytes : ℕ
slot_bytes = 510

abbrev pub spans_from : List ℕ → List ℕ → Spans
spans_from first past = record { first = first; past = past }

unfoldable pub spans_at : List ℕ → ℕ → Spans
spans_at rows s = record { first = window (slot_bytes * s) side rows; past = window (slot_bytes * s + side) side rows }

-- The list after these spans are written to slot s
abbrev pub rows_put : List ℕ → ℕ → Spans → List ℕ
rows_put rows s x = paste (paste rows (slot_bytes * s) x.first side) (slot_bytes * s + side) x.past side

-- The second list has these spans at slot s and otherwise equals the first
pub record SpansPut (rows rows' : List ℕ) (s : ℕ) (x : Spans) : Type 0 where
  pub here : spans_at rows' s ≡ x
  pub elsewhere : (j : ℕ) → (j ≡ s → ⊥) → spans_at rows' j ≡ spans_at rows j
  pub size : length rows' ≡ length rows

-- The two bytes of row r of slot s: its first column, and the column past its last
unfoldable pub ends_at : List ℕ → ℕ → ℕ → Ends
ends_at rows s r = record { first = get_or rows (slot_bytes * s + r) 0; past = get_or rows (slot_bytes * s + r + side) 0 }
