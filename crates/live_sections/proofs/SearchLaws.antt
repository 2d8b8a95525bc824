-- A section is dented exactly if its test fails.
use Prim.Native.Nat.{ℕ}
use mathlib.Core.Path.{◌≡◌}
use mathlib.Core.Bool.{not}
use mathlib.Core.List.{List}
use Rattle.spans.specs.declared.Spans.{Spans}
use Rattle.sections.specs.declared.Section.{Section}
use Rattle.pile_sections.specs.Sections.{column_section, row_section, column_clear, row_clear}
use Rattle.live_sections.specs.parts.Reach.{clear_of}

module _ (ls : List Spans) (n : ℕ) (s : Section) where
  pub column-at : s ≡ column_section ls n → not (column_clear ls n) ≡ not (clear_of s)
  unfolding column_clear clear_of
  column-at e = rw e

  pub row_at : s ≡ row_section ls n → not (row_clear ls n) ≡ not (clear_of s)
  unfolding row_clear clear_of
  row_at e = rw e
