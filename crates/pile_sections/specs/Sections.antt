-- The section at each column and each row of a pile's layers, and the first that is dented (contract 12.2 to 12.4). The layers are those
-- kept.
use Rattle.std.specs.Prelude.{ℕ, ◌-◌, Bool, not, ◌&&◌, List, [], get_or, leb, ltb}
use Rattle.base.specs.Below.{first}
use Rattle.chart.specs.Limits.{side}
use Rattle.rows.specs.parts.Rows.{rows}
use Rattle.spans.specs.declared.Spans.{Spans}
use Rattle.spans.specs.Spans.{table}
use Rattle.sections.specs.declared.Section.{Section}
use Rattle.sections.specs.Sections.{layers, numbers, clear}

-- Layer l of a list of layers, empty past the last
abbrev pub layer_at : List Spans → ℕ → Spans
layer_at ls l = get_or ls l (record { first = []; past = [] })

-- Row r has column c
unfoldable pub in_row : List ℕ → List ℕ → ℕ → ℕ → Bool
in_row begins ends c r = leb (rows begins r) c && ltb c (rows ends r)

-- The lowest row with column c, and the row past the highest; 255 and 0 if there is none
unfoldable pub lowest_row : Spans → ℕ → ℕ
lowest_row s c = first (λ r. in_row s.first s.past c r) side

unfoldable pub after_highest : Spans → ℕ → ℕ
after_highest s c = side - first (λ k. in_row s.first s.past c (side - 1 - k)) side

-- The section at column c: for each layer, the rows with that column. The section at row r: for each layer, the columns of that row
unfoldable pub column_section : List Spans → ℕ → Section
column_section ls c =
    record { lo = table (λ l. lowest_row (layer_at ls l) c) 0 layers; past = table (λ l. after_highest (layer_at ls l) c) 0 layers }

unfoldable pub row_section : List Spans → ℕ → Section
row_section ls r =
    record { lo = table (λ l. rows (layer_at ls l).first r) 0 layers; past = table (λ l. rows (layer_at ls l).past r) 0 layers }

unfoldable pub column_clear : List Spans → ℕ → Bool
column_clear ls c = clear (numbers (column_section ls c).lo) (numbers (column_section ls c).past)

unfoldable pub row_clear : List Spans → ℕ → Bool
row_clear ls r = clear (numbers (row_section ls r).lo) (numbers (row_section ls r).past)

-- The first column, and the first row, whose section is dented; 255 if there is none
unfoldable pub dented_column : List Spans → ℕ
dented_column ls = first (λ c. not (column_clear ls c)) side

unfoldable pub dented_row : List Spans → ℕ
dented_row ls = first (λ r. not (row_clear ls r)) side
