-- The columns that an outline encloses in a row, in two forms: by a search of the enclosed cells, and as a table with two numbers for
-- each row. The two agree (proofs/Exact.antt).
use Rattle.std.specs.Prelude.{Ok}
use Rattle.std.specs.Prelude.{ℕ, zero, suc, ◌-◌, ◌≤◌, min, max, ◌≡◌, ◌↔◌, Bool, true, false, cond, ◌&&◌, Option, Some, None, List, [], ◌∷◌}
use Rattle.std.specs.Prelude.{replicate, leb, ltb}
use Rattle.base.specs.Below.{first, some_below}
use Rattle.chart.specs.Limits.{side}
use Rattle.chart.specs.Outline.{Outline}
use Rattle.calls.specs.Replies.{Reply}
use Rattle.calls.specs.declared.Answer.TheVariants.{Columns as ColumnsReply, None as NoColumns}
use Rattle.rows.specs.Search.{kept_up, kept_down}
use Rattle.rows.specs.parts.Rows.{rows}
use Rattle.spans.specs.declared.Columns.{Columns}
use Rattle.spans.specs.declared.Spans.{Spans}

-- ---- by a search

-- The last number below n for which f holds, if there is one
unfoldable pub last_below : (ℕ → Bool) → ℕ → ℕ
last_below f n = n - 1 - first (λ k. f (n - 1 - k)) n

-- The columns of a row, if any is enclosed
abbrev pub Span : Type 0
Span = Option Columns

-- The columns from a to b, both included
abbrev pub columns : ℕ → ℕ → Columns
columns a b = record { first = a; last = b }

-- The first and the last marked column of row r, or none
unfoldable pub row_span : (ℕ → ℕ → Bool) → ℕ → Span
row_span marked r =
    cond (some_below (λ c. marked c r) side) (Some (columns (first (λ c. marked c r) side) (last_below (λ c. marked c r) side))) None

-- Exact: there is a first and a last column, every column from the one to the other is marked, and no other
unfoldable pub SpanExact : (ℕ → ℕ → Bool) → ℕ → Span → Type 0
SpanExact marked r None = (c : ℕ) → marked c r ≡ false
SpanExact marked r (Some s) = (s.first ≤ s.last) × ((c : ℕ) → (marked c r ≡ true) ↔ ((s.first ≤ c) × (c ≤ s.last)))

-- ---- as a table

-- n numbers: f i, f (i + 1) and so on
unfoldable pub table : (ℕ → ℕ) → ℕ → ℕ → List ℕ
table f i zero = []
table f i (suc n) = f i ∷ table f (suc i) n

-- The columns where the outline runs up and down along row r: the smaller one, and the larger
unfoldable pub left_side : Outline → ℕ → ℕ
left_side o r = min (kept_up o r) (kept_down o r)

unfoldable pub right_side : Outline → ℕ → ℕ
right_side o r = max (kept_up o r) (kept_down o r)

-- The table of an outline: each row from its left side to its right side. The table in which no row has a cell
unfoldable pub spans_of : Outline → Spans
spans_of o = record { first = table (left_side o) 0 side; past = table (right_side o) 0 side }

unfoldable pub no_spans : Spans
no_spans = record { first = replicate side 0; past = replicate side 0 }

-- The cell (c, r) is in the table
unfoldable pub in_spans : Spans → ℕ → ℕ → Bool
in_spans s c r = ltb r side && (leb (rows s.first r) c && ltb c (rows s.past r))

-- The interval of columns from a to b, b excluded; the table's interval for row r
unfoldable pub span_from : ℕ → ℕ → Span
span_from a b = cond (ltb a b) (Some (columns a (b - 1))) None

unfoldable pub span_at : Spans → ℕ → Span
span_at s r = cond (leb side r) None (span_from (rows s.first r) (rows s.past r))

-- The table describes a set of marked cells: it has these cells and no other, and its interval for each row is exact
pub record Describes (s : Spans) (marked : ℕ → ℕ → Bool) : Type 0 where
  pub cells : (c r : ℕ) → in_spans s c r ≡ marked c r
  pub exact : (r : ℕ) → SpanExact marked r (span_at s r)

-- An interval as a reply (contract 7.9)
unfoldable pub span_reply : Span → Reply
span_reply None = Ok NoColumns
span_reply (Some s) = Ok (ColumnsReply s.first s.last)
