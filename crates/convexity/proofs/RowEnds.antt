-- A cell is enclosed exactly if it is under the paths of all four pieces, since each row between S and N is left by one up and one down.
-- The cells to the right of the up are those under the paths of the two pieces with ups, and the cells to the left of the down those
-- under the paths of the two pieces with downs.
use Prim.Native.Nat.{ℕ, zero, suc, ◌+◌, ◌-◌, ◌≤◌, ◌<◌}
use native.Mathlib.Omega.{arith}
use mathlib.Core.Path.{◌≡◌, refl, ◌∙◌}
use mathlib.Core.Logic.{◌↔◌, ◌≢◌}
use mathlib.Core.Bool.{Bool, true, false, cond, ◌&&◌}
use mathlib.Core.List.{List, [], ◌∷◌}
use lib.ListN.{length, get_or}
use lib.Dec.{leb, eqb}
use borrow.Author.Tests.{eqb-true, eq-eqb, leb-true, leb-false}
use Rattle.base.proofs.BelowLaws.{not-held, and_left, below-four}
use Rattle.chart.specs.declared.Point.{Point}
use Rattle.chart.specs.Outline.{Outline, outline}
use Rattle.chart.specs.Limits.{side}
use Rattle.lattice.specs.Chart.{step, walk, corner_at, letter_at, size}
use Rattle.lattice.specs.Enclosed.{one_if, up_along, down_along, ups, downs, encloses}
use Rattle.rows.specs.Search.{up_column, down_column}
use Rattle.lattice.proofs.Jumps.{tally, tally-none}
use Rattle.convexity.specs.Frame.{frame_of, along}
use Rattle.convexity.specs.Cut.{cut}
use Rattle.convexity.specs.parts.InFrame.{cell_along, start_of, start_e, cell_e, cell_l}
use Rattle.convexity.specs.Shape.{NoBackStep}
use Rattle.convexity.proofs.Levels.{ups-tally, downs-tally, tested, leaves-upwards, up-counted, up-marked}
use Rattle.convexity.proofs.Shape.{shape, cut-le}
use Rattle.convexity.proofs.Crossings.{UnderPiece, Crossing, crossing, line-bounds}
use Rattle.convexity.proofs.UnderLaws.{under-from-left}

-- ---- a test of letters that exactly one letter passes

-- Place u is the only place of a walk whose letter passes the test f
record Finds (f : Point → ℕ → Bool) (o : Outline) (u : ℕ) : Type 0 where
  below : u < size o
  found : f (corner_at o u) (letter_at o u) ≡ true
  others : (i : ℕ) → i < size o → i ≢ u → f (corner_at o i) (letter_at o i) ≡ false

finds-next : (f : Point → ℕ → Bool) (p : Point) (a : ℕ) (w : List ℕ) (u : ℕ) → Finds f (outline p (a ∷ w)) (suc u)
    → Finds f (outline (step p a) w) u
unfolding corner_at walk
finds-next f p a w u h =
    record { below = omega (arith, h.below); found = h.found; others = λ i l n. h.others (suc i) (omega arith) (λ e. n (omega arith)) }

-- The number of letters that pass, at corner columns up to c
tally-only : (f : Point → ℕ → Bool) (c : ℕ) (p : Point) (w : List ℕ) (u : ℕ) → Finds f (outline p w) u
    → tally (λ q a. f q a && leb q.col c) p w ≡ one_if (leb (corner_at (outline p w) u).col c)
unfolding tally corner_at walk one_if
tally-only f c p [] u h = absurd (omega (arith, h.below))
tally-only f c p (a ∷ w) zero h =
    let none : tally (λ q b. f q b && leb q.col c) (step p a) w ≡ 0 =
    tally-none (λ q b. f q b && leb q.col c) (step p a) w (λ i l. rw (h.others (suc i) (omega arith) (λ e. omega arith))) in
    rw h.found (omega arith)
tally-only f c p (a ∷ w) (suc u) h =
    rw (h.others 0 (omega arith) (λ e. omega arith)) (omega (arith, tally-only f c (step p a) w u (finds-next f p a w u h)))

-- The corner column of the last letter that passes, or d if there is none
last_column : (Point → ℕ → Bool) → Point → List ℕ → ℕ → ℕ
last_column f p [] d = d
last_column f p (a ∷ w) d = last_column f (step p a) w (cond (f p a) p.col d)

last_none : (f : Point → ℕ → Bool) (p : Point) (w : List ℕ) (d : ℕ)
    → ((i : ℕ) → i < length w → f (corner_at (outline p w) i) (get_or w i 0) ≡ false) → last_column f p w d ≡ d
unfolding last_column corner_at walk
last_none f p [] d h = refl
last_none f p (a ∷ w) d h = rw (h 0 (omega arith)) (last_none f (step p a) w d (λ i l. h (suc i) (omega arith)))

last-only : (f : Point → ℕ → Bool) (p : Point) (w : List ℕ) (d u : ℕ) → Finds f (outline p w) u
    → last_column f p w d ≡ (corner_at (outline p w) u).col
unfolding last_column corner_at walk
last-only f p [] d u h = absurd (omega (arith, h.below))
last-only f p (a ∷ w) d zero h =
    rw h.found (last_none f (step p a) w p.col (λ i l. h.others (suc i) (omega arith) (λ e. omega arith)))
last-only f p (a ∷ w) d (suc u) h =
    rw (h.others 0 (omega arith) (λ e. omega arith)) (last-only f (step p a) w d u (finds-next f p a w u h))

-- The two columns of a row are of this form
up-column-last : (p : Point) (w : List ℕ) (r d : ℕ) → up_column p w r d ≡ last_column (λ q a. up_along q a r) p w d
unfolding up_column last_column
up-column-last p [] r d = refl
up-column-last p (a ∷ w) r d = up-column-last (step p a) w r (cond (up_along p a r) p.col d)

down-column-last : (p : Point) (w : List ℕ) (r d : ℕ) → down_column p w r d ≡ last_column (λ q a. down_along q a r) p w d
unfolding down_column last_column
down-column-last p [] r d = refl
down-column-last p (a ∷ w) r d = down-column-last (step p a) w r (cond (down_along p a r) p.col d)

finds-of : (f : Point → ℕ → Bool) (o : Outline) (u : ℕ) → u < size o → f (corner_at o u) (letter_at o u) ≡ true
    → ((i : ℕ) → i < size o → f (corner_at o i) (letter_at o i) ≡ true → i ≡ u) → Finds f o u
finds-of f o u l e only =
    record { below = l; found = e; others = λ i m n. not-held (f (corner_at o i) (letter_at o i)) (λ d. n (only i m d)) }

-- Ups minus downs is 1 exactly if the up is counted and the down is not
sum-iff : (m n c : ℕ) → (eqb (one_if (leb m c)) (one_if (leb n c) + 1) ≡ true) ↔ ((m ≤ c) × (c < n))
unfolding one_if
sum-iff m n c = go (leb m c) (leb n c) refl refl
  where
    go : (a b : Bool) → leb m c ≡ a → leb n c ≡ b → (eqb (one_if a) (one_if b + 1) ≡ true) ↔ ((m ≤ c) × (c < n))
    go true true p q = (λ e. absurd (omega (arith, eqb-true 1 2 e)), λ (h, k). absurd (omega (arith, leb-true n c q)))
    go true false p q = (λ e. (leb-true m c p, leb-false n c q), λ h. refl)
    go false true p q = (λ e. absurd (omega (arith, eqb-true 0 2 e)), λ (h, k). absurd (omega (arith, leb-false m c p)))
    go false false p q = (λ e. absurd (omega (arith, eqb-true 0 1 e)), λ (h, k). absurd (omega (arith, leb-false m c p)))

-- ---- the rows of a walk from W

-- The rows of S and of N
abbrev pub bottom : Outline → ℕ
bottom o = (corner_at o (cut o 3)).row

abbrev pub top : Outline → ℕ
top o = (corner_at o (cut o 1)).row

module _ (o : Outline) (c : NoBackStep o) where
  bottom-start : start_e o 3 ≡ bottom o
  unfolding start_e start_of frame_of along
  bottom-start = refl

  top_start : start_e o 1 + top o ≡ side
  unfolding start_e start_of frame_of along
  top_start = omega (arith, c.walk.walked.row_le (cut o 1) (cut-le o c 0 (omega arith)))

  -- Ups lead across the rows from piece 3 to piece 0, and downs from piece 1 to piece 2
  module _ (r : ℕ) (low : bottom o ≤ r) (high : r < top o) where
    up : Crossing o 3 r
    up = crossing o c 3 (omega arith) r (omega (arith, bottom-start)) (omega (arith, top_start))

    down : Crossing o 1 (side - 1 - r)
    down = crossing o c 1 (omega arith) (side - 1 - r) (omega (arith, top_start)) (omega (arith, bottom-start, top_start))

    abbrev up_col : ℕ
    up_col = (corner_at o up.place).col

    abbrev down_col : ℕ
    down_col = (corner_at o down.place).col

    finds-up : Finds (λ p a. up_along p a r) o up.place
    unfolding up_along frame_of along
    finds-up =
        finds-of (λ p a. up_along p a r) o up.place up.letter.0 (rw (eq-eqb _ 1 up.letter.1) (eq-eqb _ r up.here))
        (λ i l e. let (a, b) = tested (letter_at o i) 1 (corner_at o i).row r e in up.only i (l, a) b)

    finds-down : Finds (λ p a. down_along p a r) o down.place
    unfolding down_along frame_of along
    finds-down =
        let h = c.walk.walked.row_le down.place (omega (arith, down.letter.0)) in
        finds-of (λ p a. down_along p a r) o down.place down.letter.0
        (rw (eq-eqb _ 3 down.letter.1) (eq-eqb (corner_at o down.place).row (suc r) (omega (arith, down.here, top_start))))
        (λ i l e. let (a, b) = tested (letter_at o i) 3 (corner_at o i).row (suc r) e in down.only i (l, a) (omega arith))

    up-column : up_column o.start o.letters r 0 ≡ up_col
    up-column = up-column-last o.start o.letters r 0 ∙ last-only (λ p a. up_along p a r) o.start o.letters 0 up.place finds-up

    down-column : down_column o.start o.letters r 0 ≡ down_col
    down-column = down-column-last o.start o.letters r 0
        ∙ last-only (λ p a. down_along p a r) o.start o.letters 0 down.place finds-down

    -- The row's ups in corner columns 0 to c: one, or none if c is left of it. The same for downs
    pub ups-row : (c : ℕ) → ups o.start o.letters c r ≡ one_if (leb (up_column o.start o.letters r 0) c)
    ups-row c =
        rw up-column (ups-tally o.start o.letters c r
        ∙ tally-only (λ p a. up_along p a r) c o.start o.letters up.place finds-up)

    pub downs-row : (c : ℕ) → downs o.start o.letters c r ≡ one_if (leb (down_column o.start o.letters r 0) c)
    downs-row c =
        rw down-column (downs-tally o.start o.letters c r
        ∙ tally-only (λ p a. down_along p a r) c o.start o.letters down.place finds-down)

    -- The enclosed cells of the row are those from its up to its down
    ends : (c : ℕ) → (encloses o c r ≡ true) ↔ ((up_col ≤ c) × (c < down_col))
    unfolding encloses
    ends c = rw (ups-row c, downs-row c, up-column, down-column) (sum-iff up_col down_col c)

    pub row_ends : (c : ℕ)
        → (encloses o c r ≡ true) ↔ ((up_column o.start o.letters r 0 ≤ c) × (c < down_column o.start o.letters r 0))
    row_ends c = rw (up-column, down-column) (ends c)

    -- The cell to the right of the up is one of them
    pub row-convex : up_column o.start o.letters r 0 < down_column o.start o.letters r 0
    unfolding frame_of along
    row-convex =
        rw (up-column, down-column)
        ((ends up_col).0 (rw up.here at (up-marked o c.walk (leaves-upwards o c.clockwise) up.place up.letter))).1

    pub row_fits : down_column o.start o.letters r 0 ≤ side
    row_fits = rw down-column (c.walk.walked.col_le down.place (omega (arith, down.letter.0)))

    -- Right of the up is under the paths of pieces 3 and 0, left of the down is under those of pieces 1 and 2
    row_under : (x : Point) → x.row ≡ r → x.col < side → (encloses o x.col r ≡ true) ↔ ((k : ℕ) → k < 4 → UnderPiece o k x)
    unfolding cell_e cell_l cell_along frame_of along
    row_under x e l =
        let h = c.walk.walked.col_le down.place (omega (arith, down.letter.0)) in
        let a = up.under x l (omega (arith, top_start)) e in
        let b = down.under x l (omega (arith, top_start)) (omega arith) in (
          λ g.
              let (m, n) = (ends x.col).0 g in
              let (u3, u0) = a.0 m in
              let (u1, u2) = b.0 (omega arith) in
              below-four (λ k. UnderPiece o k x) u0 u1 u2 u3,
          λ u. (ends x.col).1 (a.1 (u 3 (omega arith), u 0 (omega arith)), omega (arith, b.1 (u 1 (omega arith), u 2 (omega arith)))),
        )

  pub bottom-lt-top : bottom o < top o
  bottom-lt-top = omega (arith, bottom-start, top_start, (shape o c).next_later 3 (omega arith), (shape o c).next_earlier 0 (omega arith))

  -- Below S and above N there is no up and no down
  module _ (r : ℕ) (off : bottom o ≤ r → r < top o → ⊥) (c' : ℕ) where
    pub ups-off : ups o.start o.letters c' r ≡ 0
    unfolding up_along frame_of along
    ups-off =
        ups-tally o.start o.letters c' r ∙ tally-none (λ q a. up_along q a r && leb q.col c') o.start o.letters (λ i l.
        not-held _ (λ e.
        let (a, b) =
        tested (letter_at o i) 1 (corner_at o i).row r
        (and_left (up_along (corner_at o i) (letter_at o i) r) (leb (corner_at o i).col c') e) in
        let lines = line-bounds o c 3 (omega arith) i (l, a) in
        off (omega (arith, bottom-start)) (omega (arith, top_start))))

    pub downs-off : downs o.start o.letters c' r ≡ 0
    unfolding down_along frame_of along
    downs-off =
        downs-tally o.start o.letters c' r ∙ tally-none (λ q a. down_along q a r && leb q.col c') o.start o.letters (λ i l.
        not-held _ (λ e.
        let (a, b) =
        tested (letter_at o i) 3 (corner_at o i).row (suc r)
        (and_left (down_along (corner_at o i) (letter_at o i) r) (leb (corner_at o i).col c') e) in
        let lines = line-bounds o c 1 (omega arith) i (l, a) in
        let h = c.walk.walked.row_le i (omega arith) in
        off (omega (arith, bottom-start, top_start)) (omega (arith, bottom-start, top_start))))

  pub enclosed-row : (c r : ℕ) → encloses o c r ≡ true → (bottom o ≤ r) × (r < top o)
  unfolding frame_of along
  enclosed-row x r e =
      let (i, l, _, b) = up-counted o x r e in
      let lines = line-bounds o c 3 (omega arith) i l in
      (omega (arith, bottom-start), omega (arith, top_start))

  pub enclosed-on-chart : (c r : ℕ) → encloses o c r ≡ true → (c < side) × (r < side)
  enclosed-on-chart x r e =
      let (low, high) = enclosed-row x r e in
      (omega (arith, (row_ends r low high x).0 e, row_fits r low high), omega (arith, top_start))

  -- A cell of the chart is enclosed exactly if it is under the paths of all four pieces
  pub enclosed-iff : (x : Point) → x.col < side → x.row < side
      → (encloses o x.col x.row ≡ true) ↔ ((k : ℕ) → k < 4 → UnderPiece o k x)
  unfolding cell_e cell_along frame_of
  enclosed-iff x l m = (
    λ e. let (low, high) = enclosed-row x.col x.row e in (row_under x.row low high x refl l).0 e,
    λ u.
        let low : bottom o ≤ x.row = omega (arith, bottom-start, under-from-left _ _ _ _ _ (u 3 (omega arith))) in
        let high : x.row < top o = omega (arith, top_start, under-from-left _ _ _ _ _ (u 1 (omega arith))) in
        (row_under x.row low high x refl l).1 u,
  )
