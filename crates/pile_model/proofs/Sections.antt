-- The sections of a pile whose layers have their outlines' cells. In each layer the marked cells of a column are one interval, because the
-- block is convex, and those of a row are one interval as they are kept. So the test of a section decides whether it is dented.
use Prim.Native.Nat.{ℕ, ◌+◌, ◌-◌, ◌*◌, ◌≤◌, ◌<◌}
use native.Mathlib.Decide.{dec_lt, dec_le}
use native.Mathlib.Omega.{arith}
use mathlib.Core.Path.{◌≡◌, refl, sym, ap, ◌∙◌}
use mathlib.Core.Logic.{◌↔◌}
use mathlib.Core.Bool.{Bool, true, false, true≢false}
use mathlib.Core.Option.{Option}
use mathlib.Core.List.{List, []}
use lib.ListN.{length, get_or-eq_default}
use borrow.Author.Tests.{lt-ltb, le-ltb}
use Rattle.base.specs.Below.{first}
use Rattle.base.proofs.BelowLaws.{in-interval, not-held, first_found, first-before}
use Rattle.chart.specs.Limits.{side}
use Rattle.chart.specs.declared.Point.{Point}
use Rattle.chart.specs.Outline.{Outline}
use Rattle.lattice.specs.Hull.{InHull, Convex}
use Rattle.rows.specs.parts.Rows.{rows}
use Rattle.spans.specs.declared.Spans.{Spans}
use Rattle.spans.specs.Spans.{in_spans}
use Rattle.pile_model.specs.Book.{Layers, marks, column_marks, row_marks}
use Rattle.sections.specs.Sections.{layers, numbers}
use Rattle.sections.proofs.Decides.{InRuns, hull-on-plane}
use Rattle.pile_sections.specs.Sections.{layer_at, in_row, lowest_row, after_highest, column_section, row_section, column_clear, row_clear}
use Rattle.pile_sections.proofs.RunLaws.{listed, listed_at, listed-past, listed-runs, Decided, runs-decide, after-le}

-- ---- an interval of numbers

-- Every number between two that pass, below 255, passes
abbrev Run : (ℕ → Bool) → Type 0
Run f = (i j k : ℕ) → i ≤ j → j ≤ k → k < side → f i ≡ true → f k ≡ true → f j ≡ true

-- The numbers that pass, below 255, are those from the first up to but not including the one past the last
module _ (f : ℕ → Bool) (run : Run f) where
  abbrev least : ℕ
  least = first f side

  abbrev after : ℕ
  after = side - first (λ k. f (side - 1 - k)) side

  run-iff : (r : ℕ) → r < side → (f r ≡ true) ↔ ((least ≤ r) × (r < after))
  run-iff r l = (to, from)
    where
      to : f r ≡ true → (least ≤ r) × (r < after)
      to e = (
        elim (dec_le least r) [ yes h ↦ h | no h ↦ absurd (true≢false (sym e ∙ first-before f side r (omega arith))) ],
        elim (dec_lt r after) [
          | yes h ↦ h
          | no h ↦
              let k : ℕ = side - 1 - r in
              let back : side - 1 - k ≡ r = omega arith in
              absurd (true≢false (sym e ∙ (rw back at (first-before (λ k. f (side - 1 - k)) side k (omega arith)))))
        ],
      )

      from : (least ≤ r) × (r < after) → f r ≡ true
      from (h, k) =
          let m : ℕ = first (λ k. f (side - 1 - k)) side in
          let first_passes : f least ≡ true = first_found f side (omega arith) in
          let last-passes : f (side - 1 - m) ≡ true = first_found (λ k. f (side - 1 - k)) side (omega arith) in
          run least r (side - 1 - m) h (omega arith) (omega arith) first_passes last-passes

in-row : (s : Spans) (c r : ℕ) → r < side → in_spans s c r ≡ in_row s.first s.past c r
unfolding in_spans in_row
in-row s c r l = rw (lt-ltb r side l)

-- ---- a layer that has its outline's cells

-- The rows kept have the cells that the layer marks, and the layer is convex
pub record KeptAs (v : Option Outline) (s : Spans) : Type 0 where
  pub exact : (c r : ℕ) → in_spans s c r ≡ marks v c r
  pub whole : Convex (marks v)
  pub fits : (r : ℕ) → rows s.past r ≤ side

-- A number between two others is their mean
between : (i j k m n : ℕ) → j ≡ i + n → k ≡ j + m → (m + n + 0) * j ≡ m * i + n * k + 0 * k
between i j k m n e f = omega (arith, ap (λ x. m * x) e, ap (λ x. n * x) f)

module _ (v : Option Outline) (s : Spans) (t : KeptAs v s) where
  -- A column of the layer is one interval
  marks-run : (c : ℕ) → Run (marks v c)
  marks-run c i j k h l m e f = go (marks v c j) refl
    where
      at : ℕ → Point
      at r = record { col = c; row = r }

      go : (b : Bool) → marks v c j ≡ b → marks v c j ≡ true
      go true g = g
      go false g =
          elim (dec_lt i k) [
            | yes n ↦
                absurd (t.whole (at j) (record {
                  hull = record {
                    p = at i;
                    q = at k;
                    t = at k;
                    p_marked = e;
                    q_marked = f;
                    t_marked = f;
                    triangle = record {
                      a = k - j;
                      b = j - i;
                      c = 0;
                      above_zero = omega arith;
                      cols = omega arith;
                      rows = between i j k (k - j) (j - i) (omega arith) (omega arith);
                    };
                  };
                  open_cell = g;
                }))
            | no n ↦ let d : i ≡ j = omega arith in absurd (true≢false (sym e ∙ (rw (sym d) at g)))
          ]

  row-marks : (c r : ℕ) → r < side → in_row s.first s.past c r ≡ marks v c r
  row-marks c r l = sym (in-row s c r l) ∙ t.exact c r

  -- No row off the chart has a marked cell
  off_chart : (c r : ℕ) → side ≤ r → marks v c r ≡ false
  unfolding in_spans
  off_chart c r l = sym (t.exact c r) ∙ rw (le-ltb r side l)

  -- The rows of a column, and the columns of a row
  column-exact : (c r : ℕ) → (marks v c r ≡ true) ↔ ((lowest_row s c ≤ r) × (r < after_highest s c))
  unfolding lowest_row after_highest
  column-exact c r =
      elim (dec_lt r side) [
        | yes l ↦ rw (sym (row-marks c r l)) (run-iff f run r l)
        | no l ↦ (λ e. absurd (true≢false (sym e ∙ off_chart c r (omega arith))), λ (_, h). absurd (omega arith))
      ]
    where
      f : ℕ → Bool
      f r = in_row s.first s.past c r

      run : Run f
      run i j k h l m e g = row-marks c j (omega arith)
          ∙ marks-run c i j k h l m (sym (row-marks c i (omega arith)) ∙ e) (sym (row-marks c k m) ∙ g)

  row-exact : (c r : ℕ) → r < side → (marks v c r ≡ true) ↔ ((rows s.first r ≤ c) × (c < rows s.past r))
  unfolding in_row
  row-exact c r l = rw (sym (row-marks c r l)) (in-interval (rows s.first r) (rows s.past r) c)

-- ---- the sections

-- Intervals in two lists, one number for each layer
in-runs : (marked : ℕ → ℕ → Bool) (lo past : ℕ → ℕ)
    → ((l : ℕ) → l < layers → (r : ℕ) → (marked l r ≡ true) ↔ ((lo l ≤ r) × (r < past l)))
    → ((l : ℕ) → layers ≤ l → (r : ℕ) → marked l r ≡ false) → ((l : ℕ) → past l ≤ side) → InRuns marked (listed lo) (listed past)
in-runs marked lo past exact none-past fits =
    listed-runs marked lo past (λ l h. fits l) (λ l r.
    elim (dec_lt l layers) [
      | yes h ↦ rw (listed_at lo l h, listed_at past l h) (exact l h r)
      | no h ↦
          let none = listed-past past l (omega arith) in
          (λ e. absurd (true≢false (sym e ∙ none-past l (omega arith) r)), λ (_, k). absurd (omega (arith, none)))
    ])

-- Every layer has its outline's cells
abbrev pub AllKept : Layers → List Spans → Type 0
AllKept ls kept = (l : ℕ) → KeptAs (ls l) (layer_at kept l)

-- Past the last layer nothing is kept
beyond : (kept : List Spans) (l : ℕ) → length kept ≤ l → layer_at kept l ≡ record { first = []; past = [] }
beyond kept l h = get_or-eq_default kept (record { first = []; past = [] }) h

module _ (ls : Layers) (kept : List Spans) (size : length kept ≡ layers) (t : AllKept ls kept) where
  none-beyond : (l : ℕ) → layers ≤ l → (c r : ℕ) → marks (ls l) c r ≡ false
  none-beyond l h c r =
      elim (dec_lt r side) [
        | yes i ↦
            not-held (marks (ls l) c r) (λ e.
            let (_, k) = (row-exact (ls l) (layer_at kept l) (t l) c r i).0 e in
            omega (arith, ap (λ (s : Spans). rows s.past r) (beyond kept l (omega (arith, size)))))
        | no i ↦ off_chart (ls l) (layer_at kept l) (t l) c r (omega arith)
      ]

  column-runs : (c : ℕ) → InRuns (column_marks ls c) (numbers (column_section kept c).lo) (numbers (column_section kept c).past)
  unfolding column_marks column_section
  column-runs c =
      in-runs (λ l r. marks (ls l) c r) (λ l. lowest_row (layer_at kept l) c) (λ l. after_highest (layer_at kept l) c)
      (λ l h r. column-exact (ls l) (layer_at kept l) (t l) c r) (λ l h r. none-beyond l h c r) (λ l. after-le (layer_at kept l) c)

  row-runs : (r : ℕ) → r < side → InRuns (row_marks ls r) (numbers (row_section kept r).lo) (numbers (row_section kept r).past)
  unfolding row_marks row_section
  row-runs r i =
      in-runs (λ l c. marks (ls l) c r) (λ l. rows (layer_at kept l).first r) (λ l. rows (layer_at kept l).past r)
      (λ l h c. row-exact (ls l) (layer_at kept l) (t l) c r i) (λ l h c. none-beyond l h c r) (λ l. (t l).fits r)

  -- The plane of a section has 16 by 255 cells, and the hull of its marked cells stays within it
  pub column-plane : (c : ℕ) (x : Point) → InHull (column_marks ls c) x → (x.col < layers) × (x.row < side)
  column-plane c = hull-on-plane _ _ _ (column-runs c)

  pub row-plane : (r : ℕ) (x : Point) → InHull (row_marks ls r) x → (x.col < layers) × (x.row < side)
  unfolding row_marks
  row-plane r x h =
      elim (dec_lt r side) [
        | yes i ↦ hull-on-plane _ _ _ (row-runs r i) x h
        | no i ↦
            let l = h.p.col in
            absurd (true≢false (sym h.p_marked ∙ off_chart (ls l) (layer_at kept l) (t l) h.p.row r (omega arith)))
      ]

  -- The result of a section's test
  pub column-decided : (c : ℕ) → Decided (column_clear kept c) (column_marks ls c)
  unfolding column_clear
  column-decided c = runs-decide (column-runs c)

  pub row-decided : (r : ℕ) → r < side → Decided (row_clear kept r) (row_marks ls r)
  unfolding row_clear
  row-decided r h = runs-decide (row-runs r h)
