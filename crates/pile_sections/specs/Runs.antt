-- The marked cells of the sections of layers as they are kept, whatever they hold (contract 12.3).
use Rattle.std.specs.Prelude.{ℕ, ◌≤◌, ◌<◌, Bool, ◌&&◌, List, leb, ltb}
use Rattle.chart.specs.Limits.{side}
use Rattle.chart.specs.declared.Point.{Point}
use Rattle.lattice.specs.Hull.{Missing}
use Rattle.rows.specs.parts.Rows.{rows as row_of}
use Rattle.spans.specs.declared.Spans.{Spans}
use Rattle.sections.specs.declared.Section.{Section}
use Rattle.sections.specs.Sections.{layers, numbers}
use Rattle.pile_sections.specs.Sections.{layer_at, column_section, row_section}

-- A cell is missing from the section's marked ones
abbrev pub HasDent : (ℕ → ℕ → Bool) → Type 0
HasDent marked = (x : Point) × Missing marked x

-- The marked cells of a section: for each layer, the interval that is kept
unfoldable pub run_marks : Section → ℕ → ℕ → Bool
run_marks s l r = leb (numbers s.lo l) r && ltb r (numbers s.past l)

-- At a column these are the rows from the lowest to the highest that have it. At a row these are the columns from its first to its last
abbrev pub column_runs : List Spans → ℕ → ℕ → ℕ → Bool
column_runs ls c = run_marks (column_section ls c)

abbrev pub row_runs : List Spans → ℕ → ℕ → ℕ → Bool
row_runs ls r = run_marks (row_section ls r)

-- Row r of every layer ends on the chart. Bytes always do
abbrev pub RowFits : List Spans → ℕ → Type 0
RowFits ls r = (l : ℕ) → l < layers → row_of (layer_at ls l).past r ≤ side
