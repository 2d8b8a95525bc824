-- Each section is decided by its test, so the first that fails the test is the first with a missing cell.
use Rattle.std.specs.Prelude.{Ok, Err}
use Prim.Native.Nat.{ℕ, ◌≤◌, ◌<◌}
use native.Mathlib.Omega.{arith}
use mathlib.Core.Path.{◌≡◌, refl}
use mathlib.Core.Logic.{◌↔◌}
use mathlib.Core.Bool.{Bool, not}
use mathlib.Core.List.{List}
use borrow.Author.Tests.{not-true, not-false}
use Rattle.base.proofs.BelowLaws.{first_found, first-before}
use Rattle.chart.specs.Limits.{side}
use Rattle.chart.specs.declared.Refusal.TheVariants.{Section}
use Rattle.chart.specs.declared.SectionKind.TheVariants.{Column, Row}
use Rattle.spans.specs.declared.Spans.{Spans}
use Rattle.pile_replies.specs.Replies.{PileReply}
use Rattle.pile_replies.specs.declared.PileAnswer.TheVariants.{Done}
use Rattle.pile_replies.specs.Replies.{pile_fields}
use Rattle.pile_sections.specs.Sections.{column_clear, row_clear, dented_column, dented_row}
use Rattle.pile_sections.specs.Meaning.{ConvexBefore, AllConvex, CheckedBy, passes, column, row}
use Rattle.pile_sections.proofs.RunLaws.{Decided}

-- ---- what the two searches find

module _ (columns rows : ℕ → ℕ → ℕ → Bool) (ls : List Spans) (by-column : (c : ℕ) → c < side → Decided (column_clear ls c) (columns c)) where
  columns-convex : (n : ℕ) → n ≤ side → n ≤ dented_column ls → ConvexBefore columns n
  unfolding dented_column
  columns-convex n s h c l = (by-column c (omega arith)).full (not-false _ (first-before (λ k. not (column_clear ls k)) side c (omega arith)))

  pub column-said : dented_column ls < side → CheckedBy columns rows (Err (Section Column (dented_column ls)))
  unfolding dented_column
  column-said h =
      column (dented_column ls) h ((by-column (dented_column ls) h).dent (not-true _ (first_found (λ k. not (column_clear ls k)) side h)))
      (columns-convex (dented_column ls) (omega arith) (omega arith))

  -- If no column is dented, the rows are checked up to the first dented one
  module _ (clear : side ≤ dented_column ls) (by_Row : (r : ℕ) → r < side → r ≤ dented_row ls → Decided (row_clear ls r) (rows r)) where
    rows-convex : (n : ℕ) → n ≤ side → n ≤ dented_row ls → ConvexBefore rows n
    unfolding dented_row
    rows-convex n s h r l =
        (by_Row r (omega arith) (omega arith)).full (not-false _ (first-before (λ k. not (row_clear ls k)) side r (omega arith)))

    pub row-said : dented_row ls < side → CheckedBy columns rows (Err (Section Row (dented_row ls)))
    unfolding dented_row
    row-said h =
        row (dented_row ls) h (columns-convex side (omega arith) clear)
        ((by_Row (dented_row ls) h (omega arith)).dent (not-true _ (first_found (λ k. not (row_clear ls k)) side h)))
        (rows-convex (dented_row ls) (omega arith) (omega arith))

    pub none_said : side ≤ dented_row ls → CheckedBy columns rows (Ok Done)
    none_said h = passes (columns-convex side (omega arith) clear) (rows-convex side (omega arith) h)

-- Its number is 0 exactly if no section is dented
pub checked-number : {columns rows : ℕ → ℕ → ℕ → Bool} (r : PileReply) → CheckedBy columns rows r
    → ((pile_fields r).number ≡ 0) ↔ AllConvex columns rows
unfolding pile_fields
checked-number r (passes cs rs) = (λ e. record { at_columns = cs; at_rows = rs }, λ n. refl)
checked-number r (column c h (x, d) f) = (λ e. absurd (omega arith), λ n. absurd (n.at_columns c h x d))
checked-number r (row i h cs (x, d) f) = (λ e. absurd (omega arith), λ n. absurd (n.at_rows i h x d))
