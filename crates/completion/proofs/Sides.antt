-- The ends of a block's rows are the columns of their first and last sides, and its rows lie between the
-- lowest and the highest corner. The cell on the right of each letter of the clockwise form is in the
-- block, and a row changes only at a side. A walk read backward has the same sides.
use Prim.Native.Nat.{ℕ, zero, suc, pred, ◌+◌, ◌-◌, ◌≤◌, ◌<◌}
use mathlib.Core.Path.{◌≡◌, refl, sym, ap, ◌∙◌, subst}
use mathlib.Core.Bool.{Bool, true, false, ◌||◌, ◌&&◌}
use mathlib.Core.Logic.{◌⊎◌, inl, inr}
use native.Mathlib.Decide.{dec_lt}
use native.Mathlib.Omega.{arith}
use lib.Dec.{eqb}
use borrow.Author.Tests.{eqb-false, eq-eqb}
use Rattle.base.specs.Below.{first}
use Rattle.base.proofs.BelowLaws.{first-le, first_found}
use Rattle.chart.specs.Limits.{side}
use Rattle.chart.specs.declared.Point.{Point}
use Rattle.chart.specs.Outline.{Outline, at}
use Rattle.lattice.specs.Chart.{step, leaves, corner_at, size, letter_at}
use Rattle.lattice.specs.Enclosed.{up_along, down_along}
use Rattle.lattice.specs.Refusals.{Simple}
use Rattle.lattice.specs.Walked.{Walked}
use Rattle.lattice.proofs.WalkLaws.{walked, corner-suc, SameCorners, outline-eq}
use Rattle.lattice.proofs.Jumps.{ups_to, downs_to, ups_at, downs_at, ups-jump-vertical, downs-jump-vertical, ups-column-zero, downs-column-zero}
use Rattle.lattice.proofs.Jumps.{ups-row-zero, ups-found, downs-found, next}
use Rattle.lattice.proofs.RightHand.{right_of, left_of, Lowest, level, clockwise-right}
use Rattle.convexity.specs.Cut.{west_place}
use Rattle.convexity.specs.Clockwise.{opposite, reversed, clockwise_form, border, block}
use Rattle.convexity.proofs.Clockwise.{length-backward, letter-backward, corner-backward, backward-corners, backward-backward}
use Rattle.convexity.proofs.Clockwise.{simple-backward, simple-form, clockwise-form, by-reading, west-first, leaving-west}
use Rattle.convexity.proofs.Levels.{In, tested, enclosed-level, level-enclosed, up-counted, first-lowest, leaves-upwards}
use Rattle.completion.specs.RowsOutline.{outline_of}
use Rattle.completion.specs.HullRows.{hull_left, hull_right}
use Rattle.completion.specs.Complete.{first_cell, past_cell, first_row, past_row, hull_outline, complete}
use Rattle.completion.specs.Sides.{along_row, first_side, last_side, lowest_corner, highest_corner}
use Rattle.completion.specs.parts.BySides.{complete_by_sides}
use Rattle.completion.proofs.Folds.{Met, least-is, greatest-is}
use Rattle.completion.proofs.BlockEnds.{JoinedUp, block-joined, row-after, row_before, bottom-cell, top-cell, cell-after}
use Rattle.completion.proofs.BlockEnds.{cell-before}

-- ---- letters along a row

pub along-cases : (r : ℕ) (p : Point) (a : ℕ) → along_row r p a ≡ true → ((a ≡ 1) × (p.row ≡ r)) ⊎ ((a ≡ 3) × (p.row ≡ suc r))
unfolding along_row up_along down_along
along-cases r p a e = go (eqb a 1 && eqb p.row r) refl e
  where
    go : (b : Bool) → (eqb a 1 && eqb p.row r) ≡ b → (b || (eqb a 3 && eqb p.row (suc r))) ≡ true
        → ((a ≡ 1) × (p.row ≡ r)) ⊎ ((a ≡ 3) × (p.row ≡ suc r))
    go true d f = inl (tested a 1 p.row r d)
    go false d f = inr (tested a 3 p.row (suc r) f)

pub along-up : (r : ℕ) (p : Point) (a : ℕ) → a ≡ 1 → p.row ≡ r → along_row r p a ≡ true
unfolding along_row up_along down_along
along-up r p a e d = rw (eq-eqb a 1 e, eq-eqb p.row r d) refl

pub along-down : (r : ℕ) (p : Point) (a : ℕ) → a ≡ 3 → p.row ≡ suc r → along_row r p a ≡ true
unfolding along_row up_along down_along
along-down r p a e d = rw (eq-eqb a 3 e, eq-eqb p.row (suc r) d) (either (eqb a 1 && eqb p.row r))
  where
    either : (b : Bool) → (b || true) ≡ true
    either true = refl
    either false = refl

-- A side of row r at column c
abbrev pub Side : Outline → ℕ → ℕ → Type 0
Side o r c = Met (along_row r) (λ (p : Point). p.col) o.start o.letters c

-- ---- the same sides backward

opposite-up : (a : ℕ) → a < 4 → opposite a ≡ 1 → a ≡ 3
unfolding opposite
opposite-up zero l e = absurd (omega arith)
opposite-up (suc zero) l e = absurd (omega arith)
opposite-up (suc (suc zero)) l e = absurd (omega arith)
opposite-up (suc (suc (suc zero))) l e = refl
opposite-up (suc (suc (suc (suc a)))) l e = absurd (omega arith)

opposite-down : (a : ℕ) → a < 4 → opposite a ≡ 3 → a ≡ 1
unfolding opposite
opposite-down zero l e = absurd (omega arith)
opposite-down (suc zero) l e = refl
opposite-down (suc (suc zero)) l e = absurd (omega arith)
opposite-down (suc (suc (suc zero))) l e = absurd (omega arith)
opposite-down (suc (suc (suc (suc a)))) l e = absurd (omega arith)

row_is : {p q : Point} → p ≡ q → p.row ≡ q.row
row_is e = ap (λ (x : Point). x.row) e

col-is : {p q : Point} → p ≡ q → p.col ≡ q.col
col-is e = ap (λ (x : Point). x.col) e

module _ (o : Outline) (h : Simple o) (r c : ℕ) where
  side-forward : Side (reversed o) r c → Side o r c
  unfolding step leaves
  side-forward m =
      let w = walked o h in
      let i = m.place in
      let n = length-backward o.letters in
      let j = size o - suc i in
      let l : i < size o = omega (arith, m.below) in
      let k : j < size o = omega arith in
      let letter : letter_at (reversed o) i ≡ opposite (letter_at o j) = letter-backward o.letters i l in
      let corner : corner_at (reversed o) i ≡ step (corner_at o j) (letter_at o j) =
      corner-backward o w i (omega arith) ∙ ap (corner_at o) (omega arith) ∙ corner-suc o j k in
      elim (along-cases r (corner_at (reversed o) i) (letter_at (reversed o) i) m.passes) [
        | inl (e, d) ↦
            let a : letter_at o j ≡ 3 = opposite-up (letter_at o j) (w.letter j k) (sym letter ∙ e) in
            let q = corner ∙ ap (step (corner_at o j)) a in
            let z = eqb-false (corner_at o j).row 0 (rw a at (w.stays j k)) in
            record {
              place = j;
              below = k;
              passes = along-down r (corner_at o j) (letter_at o j) a (omega (arith, row_is q));
              value = sym (col-is q) ∙ m.value;
            }
        | inr (e, d) ↦
            let a : letter_at o j ≡ 1 = opposite-down (letter_at o j) (w.letter j k) (sym letter ∙ e) in
            let q = corner ∙ ap (step (corner_at o j)) a in
            record {
              place = j;
              below = k;
              passes = along-up r (corner_at o j) (letter_at o j) a (omega (arith, row_is q));
              value = sym (col-is q) ∙ m.value;
            }
      ]

module _ (o : Outline) (h : Simple o) (r c : ℕ) where
  side-backward : Side o r c → Side (reversed o) r c
  side-backward m =
      side-forward (reversed o) (simple-backward o h) r c
      (subst (λ (w : Outline). Side w r c) (sym (outline-eq (reversed (reversed o)) o refl (backward-backward o h))) m)

  pub side-sent : Side (clockwise_form o) r c → Side o r c
  side-sent = by-reading o (λ v. Side v r c → Side o r c) (λ e m. m) (λ e. side-forward o h r c)

  pub side-read : Side o r c → Side (clockwise_form o) r c
  side-read m = by-reading o (λ v. Side v r c) (λ e. m) (λ e. side-backward m)

-- ---- the clockwise form

module _ (o : Outline) (h : Simple o) where
  abbrev v : Outline
  v = clockwise_form o

  w : Walked (clockwise_form o)
  w = walked (clockwise_form o) (simple-form o h)

  joined-up : JoinedUp (block o)
  joined-up = block-joined o h

  lowest : Lowest (clockwise_form o) (west_place (clockwise_form o))
  lowest = first-lowest (clockwise_form o) (west_place (clockwise_form o)) (west-first (clockwise_form o) w)

  up : letter_at (clockwise_form o) (west_place (clockwise_form o)) ≡ 1
  up = sym (leaving-west (clockwise_form o) w) ∙ leaves-upwards (border o) (clockwise-form o h)

  -- A point of level 1 stands for a cell of the block
  cell-of : (q : Point) → In (clockwise_form o) q → (c : ℕ) × (r : ℕ) × (q.col ≡ suc c) × (q.row ≡ suc r) × (block o c r ≡ true)
  cell-of q e = go q.col q.row refl refl e
    where
      go : (x y : ℕ) → q.col ≡ x → q.row ≡ y → ups_to (clockwise_form o) x y ≡ downs_to (clockwise_form o) x y + 1
          → (c : ℕ) × (r : ℕ) × (q.col ≡ suc c) × (q.row ≡ suc r) × (block o c r ≡ true)
      go zero y f g d = absurd (omega (arith, ups-column-zero (clockwise_form o) y))
      go (suc x) zero f g d = absurd (omega (arith, ups-row-zero (clockwise_form o) (suc x)))
      go (suc x) (suc y) f g d = (x, y, f, g, level-enclosed (clockwise_form o) (at x y) d)

  right-cell : (i : ℕ) → i < size (clockwise_form o)
      → (c : ℕ) × (r : ℕ) × ((right_of (corner_at (clockwise_form o) i) (letter_at (clockwise_form o) i)).col ≡ suc c)
      × ((right_of (corner_at (clockwise_form o) i) (letter_at (clockwise_form o) i)).row ≡ suc r) × (block o c r ≡ true)
  right-cell i l =
      cell-of (right_of (corner_at (clockwise_form o) i) (letter_at (clockwise_form o) i))
      (clockwise-right (clockwise_form o) w (west_place (clockwise_form o)) lowest up i l)

  -- A side has a cell of the block on its right if it runs up, and on its left if it runs down
  side-cell : (r c : ℕ) → Side (clockwise_form o) r c → (d : ℕ) × (block o d r ≡ true) × (d ≤ c) × (c ≤ suc d)
  unfolding right_of left_of
  side-cell r c m =
      let i = m.place in
      let p = corner_at (clockwise_form o) i in
      let (d, s, e, f, g) = right-cell i m.below in
      elim (along-cases r p (letter_at (clockwise_form o) i) m.passes) [
        | inl (a, q) ↦
            let x : suc p.col ≡ suc d = sym (ap (λ (b : ℕ). (right_of p b).col) a) ∙ e in
            let y : suc p.row ≡ suc s = sym (ap (λ (b : ℕ). (right_of p b).row) a) ∙ f in
            let z : s ≡ r = omega arith in
            (d, ap (block o d) (sym z) ∙ g, omega (arith, m.value), omega (arith, m.value))
        | inr (a, q) ↦
            let x : p.col ≡ suc d = sym (ap (λ (b : ℕ). (right_of p b).col) a) ∙ e in
            let y : p.row ≡ suc s = sym (ap (λ (b : ℕ). (right_of p b).row) a) ∙ f in
            let z : s ≡ r = omega arith in
            (d, ap (block o d) (sym z) ∙ g, omega (arith, m.value), omega (arith, m.value))
      ]

  side_after : (r c : ℕ) → Side o r c → first_cell (block o) r ≤ c
  side_after r c m = let (d, e, l, k) = side-cell r c (side-read o h r c m) in omega (arith, cell-after (block o) joined-up d r e)

  side_before : (r c : ℕ) → Side o r c → c ≤ past_cell (block o) r
  side_before r c m = let (d, e, l, k) = side-cell r c (side-read o h r c m) in omega (arith, cell-before (block o) joined-up d r e)

  -- ---- a row begins and ends at a side

  first-met : (r : ℕ) → block o (first_cell (block o) r) r ≡ true → Side o r (first_cell (block o) r)
  first-met r e = side-sent o h r _ (go (first_cell (block o) r) refl)
    where
      found : (f : ℕ) → 1 ≤ ups_at (clockwise_form o) f (suc r) → Side (clockwise_form o) r f
      found f k =
          let (i, l, a, d, _) = ups-found (clockwise_form o) f (suc r) k in
          record {
            place = i;
            below = l;
            passes = along-up r (corner_at (clockwise_form o) i) (letter_at (clockwise_form o) i) a (row_is d ∙ omega arith);
            value = col-is d;
          }

      go : (f : ℕ) → first_cell (block o) r ≡ f → Side (clockwise_form o) r (first_cell (block o) r)
      go zero d =
          subst (Side (clockwise_form o) r) (sym d)
          (found 0 (omega (
            arith,
            enclosed-level (clockwise_form o) (at 0 r) (ap (λ (c : ℕ). block o c r) (sym d) ∙ e),
            ups-jump-vertical (clockwise_form o) 0 (suc r),
            downs-jump-vertical (clockwise_form o) 0 (suc r),
            ups-column-zero (clockwise_form o) (suc r),
            downs-column-zero (clockwise_form o) (suc r),
          )))
      go (suc f) d =
          subst (Side (clockwise_form o) r) (sym d)
          (found (suc f) (
          elim (level (clockwise_form o) w (west_place (clockwise_form o)) lowest up (suc f) (suc r)) [
            | inl z ↦
                omega (
                  arith,
                  enclosed-level (clockwise_form o) (at (suc f) r) (ap (λ (c : ℕ). block o c r) (sym d) ∙ e),
                  ups-jump-vertical (clockwise_form o) (suc f) (suc r),
                  downs-jump-vertical (clockwise_form o) (suc f) (suc r),
                  z,
                )
            | inr z ↦ absurd (omega (arith, d, cell-after (block o) joined-up f r (level-enclosed (clockwise_form o) (at f r) z)))
          ]
          ))

  last-met : (r : ℕ) → 0 < past_cell (block o) r → block o (pred (past_cell (block o) r)) r ≡ true → Side o r (past_cell (block o) r)
  last-met r pos e = side-sent o h r _ (go (pred (past_cell (block o) r)) (omega arith) e)
    where
      go : (f : ℕ) → past_cell (block o) r ≡ suc f → block o f r ≡ true → Side (clockwise_form o) r (past_cell (block o) r)
      go f d g =
          elim (level (clockwise_form o) w (west_place (clockwise_form o)) lowest up (suc (suc f)) (suc r)) [
            | inr z ↦
                absurd (omega (arith, d, cell-before (block o) joined-up (suc f) r (level-enclosed (clockwise_form o) (at (suc f) r) z)))
            | inl z ↦
                let k : 1 ≤ downs_at (clockwise_form o) (suc f) (suc r) =
                omega (
                  arith,
                  enclosed-level (clockwise_form o) (at f r) g,
                  ups-jump-vertical (clockwise_form o) (suc f) (suc r),
                  downs-jump-vertical (clockwise_form o) (suc f) (suc r),
                  z,
                ) in
                let (i, l, a, q) = downs-found (clockwise_form o) (suc f) (suc r) k in
                record {
                  place = i;
                  below = l;
                  passes = along-down r (corner_at (clockwise_form o) i) (letter_at (clockwise_form o) i) a (row_is q);
                  value = col-is q ∙ sym d;
                }
          ]

  pub first-side : (r : ℕ) → first_side o r ≡ first_cell (block o) r
  unfolding first_side first_cell
  first-side r =
      least-is (along_row r) (λ p. p.col) o.start o.letters side (first_cell (block o) r) (side_after r)
      (elim (dec_lt (first_cell (block o) r) side) [
        | yes l ↦ inl (first-met r (first_found (λ c. block o c r) side l))
        | no l ↦ inr (omega (arith, first-le (λ c. block o c r) side))
      ])
      (first-le (λ c. block o c r) side)

  pub last-side : (r : ℕ) → last_side o r ≡ past_cell (block o) r
  unfolding last_side past_cell
  last-side r =
      let g : ℕ → Bool = λ c. block o (side - suc c) r in
      greatest-is (along_row r) (λ p. p.col) o.start o.letters 0 (past_cell (block o) r) (side_before r)
      (elim (dec_lt (first g side) side) [
        | yes l ↦
            let d : pred (side - first g side) ≡ side - suc (first g side) = omega arith in
            inl (last-met r (omega arith) (ap (λ (c : ℕ). block o c r) d ∙ first_found g side l))
        | no l ↦ inr (omega arith)
      ])
      (omega arith)

  -- ---- the rows of the corners

  abbrev Row : Outline → ℕ → Type 0
  Row u n = Met (λ p a. true) (λ (p : Point). p.row) u.start u.letters n

  at_row : (u : Outline) (i n : ℕ) → i < size u → (corner_at u i).row ≡ n → Row u n
  at_row u i n l e = record { place = i; below = l; passes = refl; value = e }

  row_from : (u : Outline) → SameCorners o u → (n : ℕ) → Row o n → Row u n
  row_from u s n m = let (j, l, e) = s.there m.place m.below in at_row u j n l (row_is e ∙ m.value)

  row-into : (u : Outline) → SameCorners o u → (n : ℕ) → Row u n → Row o n
  row-into u s n m = let (j, l, e) = s.back m.place m.below in at_row o j n l (row_is e ∙ m.value)

  same-corners : SameCorners o (clockwise_form o)
  same-corners =
      by-reading o (SameCorners o) (λ e. record { there = λ i l. (i, l, refl); back = λ i l. (i, l, refl) })
      (λ e. let s = backward-corners o (walked o h) in record { there = s.back; back = s.there })

  -- Each corner is at the top or at the bottom of a cell of the block
  right-row : (p : Point) (a : ℕ) → a < 4 → (p.row ≤ (right_of p a).row) × ((right_of p a).row ≤ suc p.row)
  unfolding right_of left_of
  right-row p zero l = omega arith
  right-row p (suc zero) l = omega arith
  right-row p (suc (suc zero)) l = omega arith
  right-row p (suc (suc (suc zero))) l = omega arith
  right-row p (suc (suc (suc (suc a)))) l = absurd (omega arith)

  row-bounds : (n : ℕ) → Row o n → (first_row (block o) ≤ n) × (n ≤ past_row (block o))
  row-bounds n m =
      let k = row_from (clockwise_form o) same-corners n m in
      let i = k.place in
      let (c, r, _, e, g) = right-cell i k.below in
      let q = right-row (corner_at (clockwise_form o) i) (letter_at (clockwise_form o) i) (w.letter i k.below) in
      omega (arith, q, e, k.value, row-after (block o) joined-up c r g, row_before (block o) joined-up c r g)

  low-met : Row o (first_row (block o))
  low-met =
      let (c, e) = bottom-cell (block o) joined-up in
      let (i, a, _, d) = up-counted (clockwise_form o) c (first_row (block o)) e in
      row-into (clockwise_form o) same-corners _ (at_row (clockwise_form o) i _ a.0 d)

  high-met : Row o (past_row (block o))
  unfolding step
  high-met =
      let (c, e) = top-cell (block o) joined-up in
      let (i, a, _, d) = up-counted (clockwise_form o) c (pred (past_row (block o))) e in
      let (j, l, q, _) = next (clockwise_form o) w i a.0 in
      let z = row_before (block o) joined-up c (pred (past_row (block o))) e in
      let x = row_is (sym q ∙ corner-suc (clockwise_form o) i a.0 ∙ ap (step (corner_at (clockwise_form o) i)) a.1) in
      row-into (clockwise_form o) same-corners _ (at_row (clockwise_form o) j _ l (omega arith))

  fits : past_row (block o) ≤ side
  unfolding past_row
  fits = omega arith

  pub lowest-corner : lowest_corner o ≡ first_row (block o)
  unfolding lowest_corner
  lowest-corner =
      least-is (λ p a. true) (λ p. p.row) o.start o.letters side (first_row (block o)) (λ n m. (row-bounds n m).0) (inl low-met)
      (omega (arith, row-bounds (first_row (block o)) low-met, fits))

  pub highest-corner : highest_corner o ≡ past_row (block o)
  unfolding highest_corner
  highest-corner =
      greatest-is (λ p a. true) (λ p. p.row) o.start o.letters 0 (past_row (block o)) (λ n m. (row-bounds n m).1) (inl high-met)
      (omega arith)

  -- ---- the columns of the corners

  abbrev pub Col : Outline → ℕ → Type 0
  Col u n = Met (λ p a. true) (λ (p : Point). p.col) u.start u.letters n

  right-col : (p : Point) (a : ℕ) → a < 4 → (p.col ≤ (right_of p a).col) × ((right_of p a).col ≤ suc p.col)
  unfolding right_of left_of
  right-col p zero l = omega arith
  right-col p (suc zero) l = omega arith
  right-col p (suc (suc zero)) l = omega arith
  right-col p (suc (suc (suc zero))) l = omega arith
  right-col p (suc (suc (suc (suc a)))) l = absurd (omega arith)

  -- Each corner is at the left or at the right of a cell of the block
  pub col-cell : (n : ℕ) → Col o n → (c : ℕ) × (r : ℕ) × (block o c r ≡ true) × (c ≤ n) × (n ≤ suc c)
  col-cell n m =
      let (i, l, e) = same-corners.there m.place m.below in
      let (c, r, d, _, g) = right-cell i l in
      let q = right-col (corner_at (clockwise_form o) i) (letter_at (clockwise_form o) i) (w.letter i l) in
      (c, r, g, omega (arith, q, d, col-is e, m.value), omega (arith, q, d, col-is e, m.value))

  side-col : (r c : ℕ) → Side o r c → Col o c
  side-col r c m = record { place = m.place; below = m.below; passes = refl; value = m.value }

  pub first-col : (r : ℕ) → block o (first_cell (block o) r) r ≡ true → Col o (first_cell (block o) r)
  first-col r e = side-col r _ (first-met r e)

  pub last-col : (r : ℕ) → 0 < past_cell (block o) r → block o (pred (past_cell (block o) r)) r ≡ true → Col o (past_cell (block o) r)
  last-col r l e = side-col r _ (last-met r l e)

  -- The completion, from one walk along the letters
  pub complete-by-sides : complete_by_sides o ≡ complete o
  unfolding complete_by_sides complete hull_outline
  complete-by-sides =
      λ i.
      outline_of
      (hull_left (λ r. first-side r i) (lowest-corner i) (highest-corner i))
      (hull_right (λ r. last-side r i) (lowest-corner i) (highest-corner i))
      (lowest-corner i)
      (highest-corner i)
