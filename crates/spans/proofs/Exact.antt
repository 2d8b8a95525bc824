-- The table is exact, since along each row the border has one up and, right of it, one
-- down, or neither, and the enclosed cells are those between.
-- The outline as sent runs along the same sides in either direction, so its two columns are the same.
use Prim.Native.Nat.{ℕ, ◌-◌, ◌≤◌, ◌<◌, min, max}
use native.Mathlib.Decide.{dec_le, dec_lt}
use native.Mathlib.Omega.{arith}
use mathlib.Core.Path.{◌≡◌, refl, sym, ap, ap₂, subst, ◌∙◌}
use mathlib.Core.Logic.{◌↔◌, ◌⊎◌, inl, inr, ⊎_elim}
use mathlib.Core.Bool.{Bool, true, false, ◌&&◌}
use mathlib.Core.List.{List}
use lib.Seq.{ext_get_or}
use lib.Dec.{leb, ltb}
use borrow.Author.Tests.{le-leb, lt-leb, lt-ltb, le-ltb}
use Rattle.base.specs.Below.{first, some_below}
use Rattle.base.proofs.BelowLaws.{in-interval, not-held, same_test, first-is, first-none}
use Rattle.chart.specs.Limits.{side}
use Rattle.chart.specs.Outline.{Outline}
use Rattle.lattice.specs.Enclosed.{one_if, up_along, down_along, ups, downs, encloses}
use Rattle.lattice.specs.Refusals.{Simple}
use Rattle.lattice.proofs.WalkLaws.{walked}
use Rattle.lattice.proofs.RightHand.{ups-rotation, downs-rotation}
use Rattle.rows.specs.Search.{up_column, down_column}
use Rattle.rows.specs.parts.Rows.{rows}
use Rattle.rows.proofs.RowLaws.{kept-up, kept-down}
use Rattle.convexity.specs.Cut.{from_w, west_place, clockwise}
use Rattle.convexity.specs.Clockwise.{clockwise_form, reversed, border, block}
use Rattle.convexity.specs.Pieces.{Reaches}
use Rattle.convexity.specs.Shape.{NoBackStep}
use Rattle.convexity.proofs.AsSent.{block-from-w, clear_of}
use Rattle.convexity.proofs.Levels.{ups-tally, downs-tally}
use Rattle.convexity.proofs.Clockwise.{form-clockwise, form-backward, simple-form, ups-backward, downs-backward}
use Rattle.convexity.proofs.RowEnds.{bottom, top, ups-row, downs-row, ups-off, downs-off, row_ends, row-convex, enclosed-row}
use Rattle.convexity.proofs.RowEnds.{enclosed-on-chart}
use Rattle.spans.specs.Spans.{columns, last_below, row_span, left_side, right_side, table, spans_of, in_spans, span_from, span_at}
use Rattle.spans.specs.Spans.{SpanExact, Describes}
use Rattle.std.specs.Prelude.{Some, None}
use Rattle.spans.proofs.Tables.{table_at, table-past, length-table, up_le, down_le}
use Rattle.spans.proofs.Sides.{column-none, column-once}

-- The ups along row r up to a column, and the downs
record Counts (o : Outline) (r : ℕ) (u d : ℕ → ℕ) : Type 0 where
  up : (c : ℕ) → ups o.start o.letters c r ≡ u c
  down : (c : ℕ) → downs o.start o.letters c r ≡ d c

-- No side; and one side, counted from column m on
abbrev off : ℕ → ℕ
off c = 0

abbrev from : ℕ → ℕ → ℕ
from m c = one_if (leb m c)

-- The counts from W on are those of the walk
from-w-ups : (o : Outline) → Simple o → (c r : ℕ) → ups (from_w o).start (from_w o).letters c r ≡ ups o.start o.letters c r
unfolding from_w
from-w-ups o h c r = ups-rotation o (west_place o) (walked o h).closed c r

from-w-downs : (o : Outline) → Simple o → (c r : ℕ) → downs (from_w o).start (from_w o).letters c r ≡ downs o.start o.letters c r
unfolding from_w
from-w-downs o h c r = downs-rotation o (west_place o) (walked o h).closed c r

-- The column of an up that is counted once, or no up; the same for downs
module _ (o : Outline) (r : ℕ) (u d : ℕ → ℕ) (t : Counts o r u d) where
  up-once : (m : ℕ) → ((c : ℕ) → u c ≡ from m c) → up_column o.start o.letters r 0 ≡ m
  unfolding up_column
  up-once m e =
      column-once up_along r up_column (λ p d. refl) (λ p a v d. refl) o.letters o.start 0 m
      (λ c. sym (ups-tally o.start o.letters c r) ∙ t.up c ∙ e c)

  down-once : (m : ℕ) → ((c : ℕ) → d c ≡ from m c) → down_column o.start o.letters r 0 ≡ m
  unfolding down_column
  down-once m e =
      column-once down_along r down_column (λ p d. refl) (λ p a v d. refl) o.letters o.start 0 m
      (λ c. sym (downs-tally o.start o.letters c r) ∙ t.down c ∙ e c)

  up-off : ((c : ℕ) → u c ≡ 0) → up_column o.start o.letters r 0 ≡ 0
  unfolding up_column
  up-off e =
      column-none up_along r up_column (λ p d. refl) (λ p a v d. refl) o.letters o.start 0 0
      (λ c l. sym (ups-tally o.start o.letters c r) ∙ t.up c ∙ e c)

  down-off : ((c : ℕ) → d c ≡ 0) → down_column o.start o.letters r 0 ≡ 0
  unfolding down_column
  down-off e =
      column-none down_along r down_column (λ p d. refl) (λ p a v d. refl) o.letters o.start 0 0
      (λ c l. sym (downs-tally o.start o.letters c r) ∙ t.down c ∙ e c)

-- The border's counts are those of the outline as sent, or the two are exchanged
as-sent : (o : Outline) → Simple o → (r : ℕ) (u d : ℕ → ℕ) → Counts (border o) r u d → Counts o r u d ⊎ Counts o r d u
as-sent o h r u d t = go (clockwise (from_w o)) refl
  where
    read : Counts (clockwise_form o) r u d
    read =
        let s : Simple (clockwise_form o) = simple-form o h in
        record {
          up = λ c. sym (from-w-ups (clockwise_form o) s c r) ∙ t.up c;
          down = λ c. sym (from-w-downs (clockwise_form o) s c r) ∙ t.down c;
        }

    go : (b : Bool) → clockwise (from_w o) ≡ b → Counts o r u d ⊎ Counts o r d u
    go true e = inl (subst (λ (v : Outline). Counts v r u d) (form-clockwise o e) read)
    go false e =
        let back : Counts (reversed o) r u d = subst (λ (v : Outline). Counts v r u d) (form-backward o e) read in
        inr (record { up = λ c. sym (downs-backward o h c r) ∙ back.down c; down = λ c. sym (ups-backward o h c r) ∙ back.up c })

-- The two columns of a row, in whichever direction the outline runs
record Between (o : Outline) (r m n : ℕ) : Type 0 where
  left : left_side o r ≡ m
  right : right_side o r ≡ n

module _ (o : Outline) (h : Simple o) (r : ℕ) where
  sides-of : (a b : ℕ) → up_column o.start o.letters r 0 ≡ a → down_column o.start o.letters r 0 ≡ b
      → Between o r (min a b) (max a b)
  unfolding left_side right_side
  sides-of a b e f = record { left = rw (kept-up o h r, kept-down o h r, e, f); right = rw (kept-up o h r, kept-down o h r, e, f) }

  between-once : (m n : ℕ) → m < n → Counts (border o) r (from m) (from n) → Between o r m n
  between-once m n l t =
      elim (as-sent o h r (from m) (from n) t) [
        | inl v ↦
            let s = sides-of m n (up-once o r (from m) (from n) v m (λ c. refl)) (down-once o r (from m) (from n) v n (λ c. refl)) in
            record { left = omega (arith, s.left); right = omega (arith, s.right) }
        | inr v ↦
            let s = sides-of n m (up-once o r (from n) (from m) v n (λ c. refl)) (down-once o r (from n) (from m) v m (λ c. refl)) in
            record { left = omega (arith, s.left); right = omega (arith, s.right) }
      ]

  between-off : Counts (border o) r off off → Between o r 0 0
  between-off t =
      let v : Counts o r off off = ⊎_elim (λ v. v) (λ v. v) (as-sent o h r off off t) in
      sides-of 0 0 (up-off o r off off v (λ c. refl)) (down-off o r off off v (λ c. refl))

-- ---- the table

-- The table's numbers for a row of the chart; other rows have none
kept-first : (o : Outline) (r : ℕ) → r < side → rows (spans_of o).first r ≡ left_side o r
unfolding spans_of
kept-first o r l = table_at (left_side o) 0 side r l ∙ ap (left_side o) (omega arith)

kept-past : (o : Outline) (r : ℕ) → r < side → rows (spans_of o).past r ≡ right_side o r
unfolding spans_of
kept-past o r l = table_at (right_side o) 0 side r l ∙ ap (right_side o) (omega arith)

right_le : (o : Outline) (r : ℕ) → right_side o r ≤ side
unfolding right_side
right_le o r = omega (arith, up_le o r, down_le o r)

-- No interval goes beyond the chart
pub past-le : (o : Outline) (r : ℕ) → rows (spans_of o).past r ≤ side
unfolding spans_of
past-le o r =
    elim (dec_lt r side) [
      | yes l ↦ rw (kept-past o r l) (right_le o r)
      | no l ↦ omega (
        arith,
        table-past (right_side o) 0 side r (omega arith),
      )
    ]

-- ---- a search in a row whose marked columns are one interval

found-columns : (marked : ℕ → ℕ → Bool) (r a b : ℕ) → a < side → first (λ c. marked c r) side ≡ a → last_below (λ c. marked c r) side ≡ b
    → row_span marked r ≡ Some (columns a b)
unfolding row_span some_below
found-columns marked r a b l e f = rw (e, f, lt-ltb a side l)

module _ (marked : ℕ → ℕ → Bool) (r : ℕ) where
  none-span : ((c : ℕ) → marked c r ≡ false) → row_span marked r ≡ None
  unfolding row_span some_below
  none-span none = rw (first-none (λ c. marked c r) side (λ c l. none c))

  module _ (a b : ℕ) where
    abbrev Run : Type 0
    Run = (c : ℕ) → (marked c r ≡ true) ↔ ((a ≤ c) × (c < b))

    run-first : b ≤ side → Run → a < b → first (λ c. marked c r) side ≡ a
    run-first fits e l =
        first-is (λ c. marked c r) side a (omega arith) (λ j k. not-held (marked j r) (λ g. omega (arith, (e j).0 g)))
        ((e a).1 (omega arith, l))

    run-last : b ≤ side → Run → a < b → last_below (λ c. marked c r) side ≡ b - 1
    unfolding last_below
    run-last fits e l =
        let n : first (λ k. marked (side - 1 - k) r) side ≡ side - b =
        first-is (λ k. marked (side - 1 - k) r) side (side - b) (omega arith)
        (λ j k. not-held (marked (side - 1 - j) r) (λ g. omega (arith, (e (side - 1 - j)).0 g)))
        ((e (side - 1 - (side - b))).1 (omega arith, omega arith)) in
        rw n (omega arith)

    run-span : b ≤ side → Run → row_span marked r ≡ span_from a b
    unfolding span_from
    run-span fits e =
        elim (dec_lt a b) [
          | yes l ↦ rw (lt-ltb a b l) (found l)
          | no l ↦ rw (le-ltb a b (omega arith)) (none-span (λ c. not-held (marked c r) (λ g. omega (arith, (e c).0 g))))
        ]
      where
        found : a < b → row_span marked r ≡ Some (columns a (b - 1))
        found l = found-columns marked r a (b - 1) (omega arith) (run-first fits e l) (run-last fits e l)

    run-exact : Run → SpanExact marked r (span_from a b)
    unfolding span_from SpanExact
    run-exact e =
        elim (dec_lt a b) [
          | yes l ↦
              rw (lt-ltb a b l)
              (omega arith, λ c. (λ g. let (i, j) = (e c).0 g in (i, omega arith), λ (i, j). (e c).1 (i, omega arith)))
          | no l ↦ rw (le-ltb a b (omega arith)) (λ c. not-held (marked c r) (λ g. omega (arith, (e c).0 g)))
        ]

module _ (o : Outline) (h : Reaches o) where
  abbrev t : Outline
  t = border o

  enclosed : (c r : ℕ) → (block o c r ≡ true) ↔ (encloses t c r ≡ true)
  enclosed c r = (λ e. block-from-w o h.simple c r ∙ e, λ e. sym (block-from-w o h.simple c r) ∙ e)

  -- A cell of row r is enclosed exactly if it is between the row's two sides
  row-exact : (c r : ℕ) → (block o c r ≡ true) ↔ ((left_side o r ≤ c) × (c < right_side o r))
  row-exact c r =
      elim (dec_le (bottom t) r) [
        | yes low ↦ elim (dec_lt r (top t)) [ yes high ↦ inside low high | no high ↦ outside (λ a b. high b) ]
        | no low ↦ outside (λ a b. low a)
      ]
    where
      clear : NoBackStep t
      clear = clear_of o h

      inside : bottom t ≤ r → r < top t → (block o c r ≡ true) ↔ ((left_side o r ≤ c) × (c < right_side o r))
      inside low high =
          let b =
          between-once o h.simple r _ _ (row-convex t clear r low high)
          (record { up = ups-row t clear r low high; down = downs-row t clear r low high }) in
          let e = enclosed c r in
          let f = row_ends t clear r low high c in
          rw (b.left, b.right) (λ g. f.0 (e.0 g), λ g. e.1 (f.1 g))

      outside : (bottom t ≤ r → r < top t → ⊥) → (block o c r ≡ true) ↔ ((left_side o r ≤ c) × (c < right_side o r))
      outside off' =
          let b = between-off o h.simple r (record { up = ups-off t clear r off'; down = downs-off t clear r off' }) in (
            λ e. let (low, high) = enclosed-row t clear c r ((enclosed c r).0 e) in
                absurd (off' low high),
            λ g. absurd (omega (arith, g, b.left, b.right)),
          )

  off_chart : (c r : ℕ) → side ≤ r → block o c r ≡ false
  off_chart c r l = not-held (block o c r) (λ e. omega (arith, enclosed-on-chart t (clear_of o h) c r ((enclosed c r).0 e)))

  -- The cells in the table are those that the outline encloses
  pub spans-exact : (c r : ℕ) → in_spans (spans_of o) c r ≡ block o c r
  unfolding in_spans
  spans-exact c r =
      elim (dec_lt r side) [
        | yes l ↦
            rw (lt-ltb r side l, kept-first o r l, kept-past o r l)
            (same_test (leb (left_side o r) c && ltb c (right_side o r)) (block o c r) (in-interval (left_side o r) (right_side o r) c)
            (row-exact c r))
        | no l ↦ rw (le-ltb r side (omega arith), off_chart c r (omega arith))
      ]

  -- The table's interval for a row is what a search of its cells finds
  pub spans-search : (r : ℕ) → span_at (spans_of o) r ≡ row_span (block o) r
  unfolding span_at
  spans-search r =
      elim (dec_lt r side) [
        | yes l ↦
            rw (lt-leb side r l, kept-first o r l, kept-past o r l) (sym (run-span (block o) r _ _ (right_le o r) (λ c. row-exact c r)))
        | no l ↦ rw (le-leb side r (omega arith)) (sym (none-span (block o) r (λ c. off_chart c r (omega arith))))
      ]

  -- It is exact
  pub row-span-exact : (r : ℕ) → SpanExact (block o) r (row_span (block o) r)
  row-span-exact r = rw (run-span (block o) r _ _ (right_le o r) (λ c. row-exact c r)) (run-exact (block o) r _ _ (λ c. row-exact c r))

  pub spans-describe : Describes (spans_of o) (block o)
  spans-describe = record { cells = spans-exact; exact = λ r. rw (spans-search r) (row-span-exact r) }

-- ---- two outlines with one border have the same rows

-- The two columns of a row come from the border alone
abbrev SidesFrom : Outline → ℕ → Type 0
SidesFrom t r = (m : ℕ) × (n : ℕ) × ((o : Outline) → Simple o → border o ≡ t → Between o r m n)

sides-from : (t : Outline) → NoBackStep t → (r : ℕ) → SidesFrom t r
sides-from t clear r =
    elim (dec_le (bottom t) r) [
      | yes low ↦ elim (dec_lt r (top t)) [ yes high ↦ inside low high | no high ↦ outside (λ a b. high b) ]
      | no low ↦ outside (λ a b. low a)
    ]
  where
    inside : bottom t ≤ r → r < top t → SidesFrom t r
    inside low high = (
      _,
      _,
      λ o h e. between-once o h r _ _ (row-convex t clear r low high)
          (rw e (record { up = ups-row t clear r low high; down = downs-row t clear r low high })),
    )

    outside : (bottom t ≤ r → r < top t → ⊥) → SidesFrom t r
    outside off' =
        (0, 0, λ o h e. between-off o h r (rw e (record { up = ups-off t clear r off'; down = downs-off t clear r off' })))

same-table : (f g : ℕ → ℕ) → ((r : ℕ) → f r ≡ g r) → table f 0 side ≡ table g 0 side
same-table f g e =
    ext_get_or 0 (table f 0 side) (table g 0 side) (length-table f 0 side ∙ sym (length-table g 0 side))
    (λ i l. let j : i < side = omega (arith, length-table f 0 side) in table_at f 0 side i j ∙ e _ ∙ sym (table_at g 0 side i j))

-- Also the rows without a cell
pub same-border : (o v : Outline) → Reaches o → Reaches v → border o ≡ border v → spans_of o ≡ spans_of v
unfolding spans_of
same-border o v h k e =
    ap₂ (λ (a b : List ℕ). record { first = a; past = b })
    (same-table (left_side o) (left_side v) (λ r. (sides r).0)) (same-table (right_side o) (right_side v) (λ r. (sides r).1))
  where
    sides : (r : ℕ) → (left_side o r ≡ left_side v r) × (right_side o r ≡ right_side v r)
    sides r =
        let (m, n, between) = sides-from (border v) (clear_of v k) r in
        let a = between o h.simple e in
        let b = between v k.simple refl in
        (a.left ∙ sym b.left, a.right ∙ sym b.right)
