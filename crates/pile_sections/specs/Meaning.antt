-- What a check means, by the cells that the sections mark (contract 12.3 and 12.4).
use Rattle.std.specs.Prelude.{ℕ, ◌<◌, Bool, List, Ok, Err}
use Rattle.chart.specs.Limits.{side}
use Rattle.chart.specs.declared.Refusal.TheVariants.{Section}
use Rattle.chart.specs.declared.SectionKind.TheVariants.{Column, Row}
use Rattle.lattice.specs.Hull.{Convex}
use Rattle.spans.specs.declared.Spans.{Spans}
use Rattle.pile_sections.specs.Runs.{HasDent, column_runs, row_runs}
use Rattle.pile_replies.specs.Replies.{PileReply}
use Rattle.pile_replies.specs.declared.PileAnswer.TheVariants.{Done}

-- ---- sections by their marked cells: `columns c` are those of the section at column c, `rows r` those of the section at row r

-- None of the sections before n is dented
abbrev pub ConvexBefore : (ℕ → ℕ → ℕ → Bool) → ℕ → Type 0
ConvexBefore sections n = (k : ℕ) → k < n → Convex (sections k)

-- No section is dented
pub record AllConvex (columns rows : ℕ → ℕ → ℕ → Bool) : Type 0 where
  pub at_columns : ConvexBefore columns side
  pub at_rows : ConvexBefore rows side

-- The reply of a check: done if no section is dented, otherwise the first dented one, columns before rows
pub data CheckedBy (columns rows : ℕ → ℕ → ℕ → Bool) : PileReply → Type 0 where
  passes : ConvexBefore columns side → ConvexBefore rows side → CheckedBy columns rows (Ok Done)
  column : (c : ℕ) → c < side → HasDent (columns c) → ConvexBefore columns c → CheckedBy columns rows (Err (Section Column c))
  row : (r : ℕ) → r < side → ConvexBefore columns side → HasDent (rows r) → ConvexBefore rows r
      → CheckedBy columns rows (Err (Section Row r))

-- ---- layers as they are kept, whatever they hold

-- The reply of a check of these layers, and when it is 0
abbrev pub CheckedRuns : List Spans → PileReply → Type 0
CheckedRuns ls = CheckedBy (column_runs ls) (row_runs ls)

abbrev pub NoDent : List Spans → Type 0
NoDent ls = AllConvex (column_runs ls) (row_runs ls)
