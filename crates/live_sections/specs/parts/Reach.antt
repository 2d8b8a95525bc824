-- The rows of a layer that have a cell. The search for the rows with a column looks only at these.
use Rattle.std.specs.Prelude.{ℕ, ◌-◌, ◌≤◌, ◌<◌, ◌≡◌, Bool, false, List, ltb}
use Rattle.base.specs.Below.{first}
use Rattle.chart.specs.Limits.{side}
use Rattle.rows.specs.parts.Rows.{rows}
use Rattle.spans.specs.declared.Spans.{Spans}
use Rattle.spans.specs.Spans.{table}
use Rattle.sections.specs.declared.Section.{Section}
use Rattle.sections.specs.Sections.{layers, numbers, clear}
use Rattle.pile_sections.specs.Sections.{layer_at, in_row}

unfoldable pub has_cell : List ℕ → List ℕ → ℕ → Bool
has_cell begins ends r = ltb (rows begins r) (rows ends r)

-- The lowest row with a cell, and the row past the highest
unfoldable pub bottom_of : Spans → ℕ
bottom_of s = first (λ r. has_cell s.first s.past r) side

unfoldable pub top_of : Spans → ℕ
top_of s = side - first (λ k. has_cell s.first s.past (side - 1 - k)) side

-- The same for every layer
unfoldable pub reach_of : List Spans → Section
reach_of ls = record { lo = table (λ l. bottom_of (layer_at ls l)) 0 layers; past = table (λ l. top_of (layer_at ls l)) 0 layers }

-- No row before n has column c; no row from n on has it
unfoldable pub NoneBelow : List ℕ → List ℕ → ℕ → ℕ → Type 0
NoneBelow begins ends c n = (r : ℕ) → r < n → in_row begins ends c r ≡ false

unfoldable pub NoneFrom : List ℕ → List ℕ → ℕ → ℕ → Type 0
NoneFrom begins ends c n = (r : ℕ) → n ≤ r → r < side → in_row begins ends c r ≡ false

-- No cell is missing from the section's marked ones
unfoldable pub clear_of : Section → Bool
clear_of s = clear (numbers s.lo) (numbers s.past)
