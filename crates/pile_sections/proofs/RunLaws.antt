-- A section's marked cells are one interval in each layer, or none, so its test decides whether a cell is missing.
use Prim.Native.Nat.{ℕ, ◌≤◌, ◌<◌}
use native.Mathlib.Decide.{dec_lt}
use native.Mathlib.Omega.{arith}
use mathlib.Core.Path.{◌≡◌, ap, ◌∙◌}
use mathlib.Core.Logic.{◌↔◌}
use mathlib.Core.Bool.{Bool, true, false}
use mathlib.Core.List.{List}
use Rattle.base.proofs.BelowLaws.{in-interval}
use Rattle.chart.specs.Limits.{side}
use Rattle.lattice.specs.Hull.{Convex}
use Rattle.rows.specs.parts.Rows.{rows as row_of}
use Rattle.spans.specs.declared.Spans.{Spans}
use Rattle.spans.specs.Spans.{table}
use Rattle.spans.proofs.Tables.{table_at, table-past}
use Rattle.sections.specs.Sections.{layers, numbers, clear}
use Rattle.sections.proofs.Decides.{InRuns, clear-convex, unclear-missing}
use Rattle.pile_sections.specs.Sections.{layer_at, lowest_row, after_highest, column_section, row_section, column_clear, row_clear}
use Rattle.pile_sections.specs.Runs.{HasDent, run_marks, column_runs, row_runs, RowFits}

-- ---- intervals in two lists, one number for each layer

abbrev pub listed : (ℕ → ℕ) → ℕ → ℕ
listed f = numbers (table f 0 layers)

pub listed_at : (f : ℕ → ℕ) (l : ℕ) → l < layers → listed f l ≡ f l
listed_at f l h = table_at f 0 layers l h ∙ ap f (omega arith)

pub listed-past : (f : ℕ → ℕ) (l : ℕ) → layers ≤ l → listed f l ≡ 0
listed-past f l h = table-past f 0 layers l h

pub listed-runs : (marked : ℕ → ℕ → Bool) (lo past : ℕ → ℕ) → ((l : ℕ) → l < layers → past l ≤ side)
    → ((l r : ℕ) → (marked l r ≡ true) ↔ ((listed lo l ≤ r) × (r < listed past l))) → InRuns marked (listed lo) (listed past)
listed-runs marked lo past on_chart exact =
    record {
      exact = exact;
      small = λ l k. elim (dec_lt l layers) [ yes h ↦ h | no h ↦ absurd (omega (arith, listed-past past l (omega arith))) ];
      fits = λ l.
          elim (dec_lt l layers) [
            | yes h ↦ omega (arith, listed_at past l h, on_chart l h)
            | no h ↦ omega (arith, listed-past past l (omega arith))
          ];
    }

-- ---- the test of a section says whether it is dented

pub record Decided (clear : Bool) (marked : ℕ → ℕ → Bool) : Type 0 where
  pub full : clear ≡ true → Convex marked
  pub dent : clear ≡ false → HasDent marked

pub runs-decide : {marked : ℕ → ℕ → Bool} {lo past : ℕ → ℕ} → InRuns marked lo past → Decided (clear lo past) marked
runs-decide {marked} {lo} {past} t = record { full = clear-convex marked lo past t; dent = unclear-missing marked lo past t }

pub after-le : (s : Spans) (c : ℕ) → after_highest s c ≤ side
unfolding after_highest
after-le s c = omega arith

module _ (ls : List Spans) where
  pub column-decided : (c : ℕ) → Decided (column_clear ls c) (column_runs ls c)
  unfolding column_clear column_section run_marks
  column-decided c =
      runs-decide
      (listed-runs _ (λ l. lowest_row (layer_at ls l) c) (λ l. after_highest (layer_at ls l) c) (λ l h. after-le (layer_at ls l) c)
      (λ l r. in-interval _ _ r))

  pub row-decided : (r : ℕ) → RowFits ls r → Decided (row_clear ls r) (row_runs ls r)
  unfolding row_clear row_section run_marks
  row-decided r fits =
      runs-decide (listed-runs _ (λ l. row_of (layer_at ls l).first r) (λ l. row_of (layer_at ls l).past r) fits (λ l r. in-interval _ _ r))
