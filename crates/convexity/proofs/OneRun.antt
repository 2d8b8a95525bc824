-- If no cell is missing, the enclosed cells of a line form one interval, since a cell between two enclosed cells lies in the hull.
-- The cell to the right of a letter is enclosed and the cell to its left is not. So the crossing letter leaves a line once, and its
-- opposite stands at the far end of the interval. Each law names the cell that is missing if it fails.
use Prim.Native.Nat.{ℕ, zero, suc, ◌+◌, ◌-◌, ◌*◌, ◌≤◌, ◌<◌}
use native.Mathlib.Decide.{dec_lt}
use native.Mathlib.Omega.{arith}
use mathlib.Core.Path.{◌≡◌, sym, ap, subst}
use mathlib.Core.Logic.{◌≢◌}
use Rattle.chart.specs.declared.Point.{Point}
use Rattle.chart.specs.Outline.{Outline, at}
use Rattle.lattice.specs.Chart.{corner_at, letter_at}
use Rattle.lattice.specs.Hull.{InTriangle, Missing}
use Rattle.lattice.proofs.WalkLaws.{point-eq, corner-injective}
use Rattle.lattice.proofs.Jumps.{ups_to, ups-column-zero, ups-row-zero}
use Rattle.lattice.proofs.RightHand.{left_of, right_of}
use Rattle.convexity.specs.Frame.{frame_of, along}
use Rattle.convexity.specs.Clockwise.{opposite}
use Rattle.base.proofs.Mean.{mean-same, mean-at-least}
use Rattle.lattice.specs.Enclosed.{encloses}
use Rattle.convexity.specs.Shape.{WalkFromW}
use Rattle.convexity.proofs.Extreme.{along-injective, on_chart}
use Rattle.convexity.proofs.Levels.{LetterAt, In, Out, shifted, level-enclosed, level-open, right-in, left_out}

-- Some cell is missing
abbrev pub SomeMissing : Outline → Type 0
SomeMissing o = (x : Point) × Missing (encloses o) x

-- ---- a segment

-- A number between two others is their mean
mean-between : (m n x y z : ℕ) → y ≡ x + n → z ≡ y + m → (m + n + 0) * y ≡ m * x + n * z + 0 * z
mean-between m n x y z e f = omega (arith, ap (λ i. m * i) e, ap (λ i. n * i) f)

mean-level : (m n x y z : ℕ) → x ≡ y → z ≡ y → (m + n + 0) * y ≡ m * x + n * z + 0 * z
mean-level m n x y z e f = rw (e, f) (mean-same m n 0 y)

-- A point between two others of its row, and of its column
between-row : (p x q : Point) → p.row ≡ x.row → q.row ≡ x.row → p.col ≤ x.col → x.col ≤ q.col → p.col < q.col → InTriangle x p q q
between-row p x q e f h k l =
    record {
      a = q.col - x.col;
      b = x.col - p.col;
      c = 0;
      above_zero = omega arith;
      cols = mean-between (q.col - x.col) (x.col - p.col) p.col x.col q.col (omega arith) (omega arith);
      rows = mean-level (q.col - x.col) (x.col - p.col) p.row x.row q.row e f;
    }

between-col : (p x q : Point) → p.col ≡ x.col → q.col ≡ x.col → p.row ≤ x.row → x.row ≤ q.row → p.row < q.row → InTriangle x p q q
between-col p x q e f h k l =
    record {
      a = q.row - x.row;
      b = x.row - p.row;
      c = 0;
      above_zero = omega arith;
      cols = mean-level (q.row - x.row) (x.row - p.row) p.col x.col q.col e f;
      rows = mean-between (q.row - x.row) (x.row - p.row) p.row x.row q.row (omega arith) (omega arith);
    }

-- The cell for which a point stands
abbrev cell : Point → Point
cell p = at (p.col - 1) (p.row - 1)

unshifted : (p : Point) → 0 < p.col → 0 < p.row → p ≡ shifted (cell p)
unshifted p h k = point-eq p (shifted (cell p)) (omega arith) (omega arith)

unshift : {x p q : Point} → InTriangle (shifted x) (shifted p) (shifted q) (shifted q) → InTriangle x p q q
unshift h = record { a = h.a; b = h.b; c = h.c; above_zero = h.above_zero; cols = omega (arith, h.cols); rows = omega (arith, h.rows) }

module _ (o : Outline) where
  -- A point of level 1 stands for a cell
  in-col : (p : Point) → In o p → 0 < p.col
  in-col p i =
      elim (dec_lt 0 p.col) [
        | yes l ↦ l
        | no l ↦ let e : p.col ≡ 0 = omega arith in
            absurd (omega (arith, ups-column-zero o p.row, ap (λ (c : ℕ). ups_to o c p.row) e))
      ]

  in-row : (p : Point) → In o p → 0 < p.row
  in-row p i =
      elim (dec_lt 0 p.row) [
        | yes l ↦ l
        | no l ↦ let e : p.row ≡ 0 = omega arith in absurd (omega (arith, ups-row-zero o p.col, ap (ups_to o p.col) e))
      ]

  -- A point of level 0 between two of level 1 is missing
  gap : (p x q : Point) → InTriangle x p q q → In o p → Out o x → In o q → SomeMissing o
  gap p x q v i u j =
      let p' = unshifted p (in-col p i) (in-row p i) in
      let q' = unshifted q (in-col q j) (in-row q j) in
      let x' = unshifted x
      (mean-at-least v.a v.b v.c _ _ _ _ 1 v.above_zero v.cols (in-col p i) (in-col q j) (in-col q j))
      (mean-at-least v.a v.b v.c _ _ _ _ 1 v.above_zero v.rows (in-row p i) (in-row q j) (in-row q j)) in
      let e = level-enclosed o (cell q) (subst (In o) q' j) in (
        cell x,
        record {
          hull = record {
            p = cell p;
            q = cell q;
            t = cell q;
            p_marked = level-enclosed o (cell p) (subst (In o) p' i);
            q_marked = e;
            t_marked = e;
            triangle = unshift (rw (x', p', q') at v);
          };
          open_cell = level-open o (cell x) (subst (Out o) x' u);
        },
      )

  -- ---- two letters across one line of a walk that leaves W upward

  module _ (h : WalkFromW o) (up : letter_at o 0 ≡ 1) where
    abbrev corner : ℕ → Point
    corner i = corner_at o i

    -- A frame's later letter at two places of one line, the second further along the earlier letter
    apart-gap : (k i j : ℕ) → LetterAt o.letters (frame_of k).later i → LetterAt o.letters (frame_of k).later j
        → along (frame_of k).later (corner i) ≡ along (frame_of k).later (corner j)
        → along (frame_of k).earlier (corner i) < along (frame_of k).earlier (corner j) → SomeMissing o
    unfolding frame_of along right_of left_of
    apart-gap zero i j e f r l =
        gap (right_of (corner i) 1) (left_of (corner j) 1) (right_of (corner j) 1)
        (between-row _ _ _ (omega arith) (omega arith) (omega arith) (omega arith) (omega arith))
        (right-in o h up 1 i e) (left_out o h up 1 j f) (right-in o h up 1 j f)
    apart-gap (suc zero) i j e f r l =
        gap (right_of (corner j) 0) (left_of (corner j) 0) (right_of (corner i) 0)
        (between-col _ _ _ (omega arith) (omega arith) (omega arith) (omega arith) (omega arith))
        (right-in o h up 0 j f) (left_out o h up 0 j f) (right-in o h up 0 i e)
    apart-gap (suc (suc zero)) i j e f r l =
        let level : (corner i).row ≡ (corner j).row = omega (arith, h.walked.row_le i (omega arith), h.walked.row_le j (omega arith)) in
        gap (right_of (corner j) 3) (left_of (corner j) 3) (right_of (corner i) 3)
        (between-row _ _ _ (omega arith) (omega arith) (omega arith) (omega arith) (omega arith))
        (right-in o h up 3 j f) (left_out o h up 3 j f) (right-in o h up 3 i e)
    apart-gap (suc (suc (suc k))) i j e f r l =
        let level : (corner i).col ≡ (corner j).col = omega (arith, h.walked.col_le i (omega arith), h.walked.col_le j (omega arith)) in
        gap (right_of (corner i) 2) (left_of (corner j) 2) (right_of (corner j) 2)
        (between-col _ _ _ (omega arith) (omega arith) (omega arith) (omega arith) (omega arith))
        (right-in o h up 2 i e) (left_out o h up 2 j f) (right-in o h up 2 j f)

    -- The same for any two places of one line, since their corners differ
    pub twice : (k i j : ℕ) → LetterAt o.letters (frame_of k).later i → LetterAt o.letters (frame_of k).later j → i ≢ j
        → along (frame_of k).later (corner i) ≡ along (frame_of k).later (corner j) → SomeMissing o
    twice k i j e f n r =
        elim (dec_lt (along (frame_of k).earlier (corner i)) (along (frame_of k).earlier (corner j))) [
          | yes l ↦ apart-gap k i j e f r l
          | no l ↦
              elim (dec_lt (along (frame_of k).earlier (corner j)) (along (frame_of k).earlier (corner i))) [
                | yes m ↦ apart-gap k j i f e (sym r) m
                | no m ↦
                    absurd (n (corner-injective o h.walked i j e.0 f.0
                    (along-injective k (corner i) (corner j) (on_chart o h.walked i (omega arith))
                    (on_chart o h.walked j (omega arith)) (omega arith) r)))
              ]
        ]

    -- The later letter, and its opposite across the same line, not further along the earlier letter
    pub back-gap : (k i j : ℕ) → LetterAt o.letters (frame_of k).later i → LetterAt o.letters (opposite (frame_of k).later) j
        → along (frame_of k).later (corner i) + 1 ≡ along (frame_of k).later (corner j)
        → along (frame_of k).earlier (corner j) ≤ along (frame_of k).earlier (corner i) → SomeMissing o
    unfolding frame_of along opposite right_of left_of
    back-gap zero i j e f r l =
        gap (right_of (corner j) 3) (left_of (corner i) 1) (right_of (corner i) 1)
        (between-row _ _ _ (omega arith) (omega arith) (omega arith) (omega arith) (omega arith))
        (right-in o h up 3 j f) (left_out o h up 1 i e) (right-in o h up 1 i e)
    back-gap (suc zero) i j e f r l =
        let below : (corner i).row ≤ (corner j).row = omega (arith, h.walked.row_le i (omega arith)) in
        gap (right_of (corner i) 0) (left_of (corner j) 2) (right_of (corner j) 2)
        (between-col _ _ _ (omega arith) (omega arith) (omega arith) (omega arith) (omega arith))
        (right-in o h up 0 i e) (left_out o h up 2 j f) (right-in o h up 2 j f)
    back-gap (suc (suc zero)) i j e f r l =
        let left : (corner i).col ≤ (corner j).col = omega (arith, h.walked.col_le i (omega arith)) in
        let level : (corner i).row ≡ (corner j).row + 1 =
        omega (arith, h.walked.row_le i (omega arith), h.walked.row_le j (omega arith)) in
        gap (right_of (corner i) 3) (left_of (corner j) 1) (right_of (corner j) 1)
        (between-row _ _ _ (omega arith) (omega arith) (omega arith) (omega arith) (omega arith))
        (right-in o h up 3 i e) (left_out o h up 1 j f) (right-in o h up 1 j f)
    back-gap (suc (suc (suc k))) i j e f r l =
        let level : (corner i).col ≡ (corner j).col + 1 =
        omega (arith, h.walked.col_le i (omega arith), h.walked.col_le j (omega arith)) in
        gap (right_of (corner j) 0) (left_of (corner i) 2) (right_of (corner i) 2)
        (between-col _ _ _ (omega arith) (omega arith) (omega arith) (omega arith) (omega arith))
        (right-in o h up 0 j f) (left_out o h up 2 i e) (right-in o h up 2 i e)

    -- An up, and a down along the same row that is not to its right
    pub up-down : (i j : ℕ) → LetterAt o.letters 1 i → LetterAt o.letters 3 j → (corner i).row + 1 ≡ (corner j).row
        → (corner j).col ≤ (corner i).col → SomeMissing o
    unfolding frame_of along opposite
    up-down i j e f r l = back-gap 0 i j e f r l

    -- A right, and a left along the same column that is not below it
    pub right-left : (i j : ℕ) → LetterAt o.letters 0 i → LetterAt o.letters 2 j → (corner i).col + 1 ≡ (corner j).col
        → (corner i).row ≤ (corner j).row → SomeMissing o
    unfolding frame_of along opposite
    right-left i j e f c l = back-gap 1 i j e f c (omega arith)
