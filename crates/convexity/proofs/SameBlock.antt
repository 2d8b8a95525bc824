-- The cells determine the border, because a side is walked exactly where the level changes, and each corner is left only once.
-- So two outlines that enclose the same cells have the same W and the same letters from W.
use Prim.Native.Nat.{ℕ, zero, suc, ◌+◌, ◌-◌, ◌≤◌, ◌<◌}
use native.Mathlib.Decide.{dec_lt}
use native.Mathlib.Omega.{arith}
use mathlib.Core.Path.{◌≡◌, refl, sym, ap, ◌∙◌}
use mathlib.Core.Logic.{inl, inr, ◌⊎◌, ◌↔◌}
use mathlib.Core.Bool.{true, false, cond}
use lib.Seq.{ext_get_or}
use borrow.Author.Tests.{leb-false, eqb-false, ne_eqb}
use Rattle.chart.specs.Limits.{side}
use Rattle.chart.specs.declared.Point.{Point}
use Rattle.chart.specs.Outline.{Outline, at}
use Rattle.lattice.specs.Chart.{step, leaves, corner_at, size, Closed, letter_at, rotated}
use Rattle.lattice.specs.Enclosed.{ups, downs, encloses}
use Rattle.lattice.specs.Refusals.{Simple}
use Rattle.lattice.specs.Walked.{Walked}
use Rattle.lattice.proofs.WalkLaws.{walked, point-eq, corner-zero, corner-suc, corner-all, corner-injective, rotated-corners}
use Rattle.lattice.proofs.WalkLaws.{rotated-walked, rotated-simple, outline-eq}
use Rattle.lattice.proofs.Jumps.{rises, falls, ups_to, downs_to, ups_at, rights_at, lefts_at, ups-to, downs-to, ups-jump-vertical}
use Rattle.lattice.proofs.Jumps.{downs-jump-vertical, ups-column-zero, downs-column-zero, ups-row-zero, downs-row-zero, jump-horizontal}
use Rattle.lattice.proofs.Jumps.{ups-found, downs-found, rights-found, lefts-found, ups-none, rights-none, lefts-none}
use Rattle.lattice.proofs.RightHand.{left_of, right_of, OneAbove, left-hand, level, tally-rotation}
use Rattle.convexity.specs.Cut.{west_place, west, from_w, clockwise}
use Rattle.convexity.specs.Pieces.{Reaches, dent_piece, edges}
use Rattle.convexity.specs.Inside.{inside_edges}
use Rattle.convexity.specs.SameBlock.{SameCells, SameEdges}
use Rattle.convexity.specs.Clockwise.{clockwise_form, reversed, block, border}
use Rattle.convexity.specs.Shape.{WalkFromW}
use Rattle.convexity.proofs.Extreme.{from-w-of, first-shared}
use Rattle.convexity.proofs.Levels.{enclosed-level, level-enclosed, leaves-upwards, from-w-lowest, left-of-anchor, below-anchor}
use Rattle.convexity.proofs.Levels.{anchor-lowest}
use Rattle.convexity.proofs.AsSent.{block-from-w, edges-answer-sent}
use Rattle.convexity.proofs.Clockwise.{simple-form, clockwise-form, from-w-form}

-- ---- a side is walked where the level changes

-- The letter a leaves the corner q at some place
abbrev pub Leaves : Outline → Point → ℕ → Type 0
Leaves o q a = (j : ℕ) × (j < size o) × (letter_at o j ≡ a) × (corner_at o j ≡ q)

left-from : (o : Outline) (x : ℕ) (q : Point) → suc x ≡ q.col → 1 ≤ lefts_at o x q.row → Leaves o q 2
left-from o x q e h = let (j, m, f, d) = lefts-found o x q.row h in (j, m, f, d ∙ point-eq (at (suc x) q.row) q e refl)

-- If the cell to the right of a letter is one level above the cell to its left, the walk has that letter
pub side-walked : (o : Outline) → Walked o → (q : Point) (a : ℕ) → a < 4 → leaves q a ≡ false
    → OneAbove o (right_of q a) (left_of q a) → Leaves o q a
unfolding right_of left_of leaves
side-walked o t q zero l e h = rights-found o q.col q.row (omega (arith, jump-horizontal o t.stays t.closed q.col q.row))
side-walked o t q (suc zero) l e h =
    let x = q.col in
    let y = suc q.row in
    let (j, m, f, d, _) = ups-found o x y (omega (arith, ups-jump-vertical o x y, downs-jump-vertical o x y)) in
    (j, m, f, d ∙ point-eq (at x (y - 1)) q refl (omega arith))
side-walked o t q (suc (suc zero)) l e h =
    let x = q.col - 1 in
    let n : suc x ≡ q.col = omega (arith, eqb-false q.col 0 e) in
    left-from o x q n (omega (arith, rw n at (jump-horizontal o t.stays t.closed x q.row)))
side-walked o t q (suc (suc (suc zero))) l e h =
    downs-found o q.col q.row (omega (arith, ups-jump-vertical o q.col q.row, downs-jump-vertical o q.col q.row))
side-walked o t q (suc (suc (suc (suc a)))) l e h = absurd (omega arith)

-- ---- two walks with the same levels, from the same corner

-- Every cell has the same ups minus downs in both walks
abbrev pub SameLevels : Outline → Outline → Type 0
SameLevels o o' = (C R : ℕ) → ups_to o C R + downs_to o' C R ≡ downs_to o C R + ups_to o' C R

same-levels-sym : (o o' : Outline) → SameLevels o o' → SameLevels o' o
same-levels-sym o o' h C R = omega (arith, h C R)

module _ (o o' : Outline) (start : o.start ≡ o'.start) (t : Walked o) (t' : Walked o') (same : SameLevels o o') where
  -- A letter of one walk is a letter of the other, and leaves the same corner there
  letter-shared : (i : ℕ) → i < size o → Leaves o' (corner_at o i) (letter_at o i)
  letter-shared i l =
      let p = corner_at o i in
      let a = letter_at o i in
      side-walked o' t' p a (t.letter i l) (t.stays i l)
      (omega (
        arith,
        left-hand o t i l,
        same (right_of p a).col (right_of p a).row,
        same (left_of p a).col (left_of p a).row,
      ))

  -- If both are at the same corner at the same place, both leave it by the same letter
  letter-same : (i : ℕ) → i < size o → i < size o' → corner_at o i ≡ corner_at o' i → letter_at o i ≡ letter_at o' i
  letter-same i l m e =
      let (j, b, f, d) = letter-shared i l in
      sym f ∙ ap (letter_at o') (corner-injective o' t' j i b m (d ∙ e))

  corner-same : (i : ℕ) → i ≤ size o → i ≤ size o' → corner_at o i ≡ corner_at o' i
  corner-same zero l m = corner-zero o ∙ start ∙ sym (corner-zero o')
  corner-same (suc i) l m =
      let e = corner-same i (omega arith) (omega arith) in
      let f = letter-same i l m e in
      corner-suc o i l ∙ (λ z. step (e z) (f z)) ∙ sym (corner-suc o' i m)

  -- One cannot be longer: the shorter is back at its start, which the longer would meet twice
  not-shorter : size o < size o' → ⊥
  not-shorter l =
      t'.distinct 0 (size o) (omega (arith, t.long)) l
      (corner-zero o' ∙ sym start ∙ sym t.closed ∙ sym (corner-all o) ∙ corner-same (size o) (omega arith) (omega arith))

-- Walks that pass refusals 1 to 6, with the same levels and the same start, are equal
pub same-walk : (o o' : Outline) → o.start ≡ o'.start → Walked o → Walked o' → SameLevels o o' → o ≡ o'
same-walk o o' e t t' same =
    outline-eq o o' e (ext_get_or 0 o.letters o'.letters sizes
    (λ i l. letter-same o o' e t t' same i l (omega (arith, sizes)) (corner-same o o' e t t' same i (omega arith) (omega (arith, sizes)))))
  where
    sizes : size o ≡ size o'
    sizes =
        elim (dec_lt (size o) (size o')) [
          | yes a ↦ absurd (not-shorter o o' e t t' same a)
          | no a ↦
              elim (dec_lt (size o') (size o)) [
                | yes b ↦ absurd (not-shorter o' o (sym e) t' t (same-levels-sym o o' same) b)
                | no b ↦ omega arith
              ]
        ]

-- ---- clockwise walks from W

-- A walk from W that leaves it upward
record UpTurn (o : Outline) : Type 0 where
  walk : WalkFromW o
  up : letter_at o 0 ≡ 1

-- Two walks enclose the same cells
abbrev SameEnclosed : Outline → Outline → Type 0
SameEnclosed o o' = (c r : ℕ) → encloses o c r ≡ encloses o' c r

module _ (o : Outline) (d : UpTurn o) where
  -- No enclosed cell comes before the cell at W
  west-left : (c r : ℕ) → encloses o c r ≡ true → o.start.col ≤ c
  west-left c r e =
      elim (dec_lt c o.start.col) [
        | yes l ↦ let z : ◌≡◌ {A = ℕ} 0 1 = cc (left-of-anchor o d.walk c r l) in absurd (omega arith)
        | no l ↦ omega arith
      ]

  west-low : (c r : ℕ) → c ≡ o.start.col → encloses o c r ≡ true → o.start.row ≤ r
  west-low c r f e =
      elim (dec_lt r o.start.row) [
        | yes l ↦ let z : ◌≡◌ {A = ℕ} 0 1 = cc (below-anchor o d.walk r l) in absurd (omega arith)
        | no l ↦ omega arith
      ]

module _ (o o' : Outline) (d : UpTurn o) (d' : UpTurn o') (same : SameEnclosed o o') where
  -- The cell at W is the same
  same_start : o.start ≡ o'.start
  same_start =
      let here : encloses o' o.start.col o.start.row ≡ true = sym (same o.start.col o.start.row)
      ∙ (anchor-lowest o d.walk d.up).enclosed in
      let there : encloses o o'.start.col o'.start.row ≡ true = same o'.start.col o'.start.row
      ∙ (anchor-lowest o' d'.walk d'.up).enclosed in
      let c : o.start.col ≡ o'.start.col =
      omega (arith, west-left o' d' o.start.col o.start.row here, west-left o d o'.start.col o'.start.row there) in
      point-eq o.start o'.start c
      (omega (
        arith,
        west-low o d o'.start.col o'.start.row (sym c) there,
        west-low o' d' o.start.col o.start.row c here,
      ))

  -- Levels are 0 or 1, and the enclosed cells tell which
  same-levels : SameLevels o o'
  same-levels zero R = omega (arith, ups-column-zero o R, downs-column-zero o R, ups-column-zero o' R, downs-column-zero o' R)
  same-levels (suc c) zero =
      omega (
        arith,
        ups-row-zero o (suc c),
        downs-row-zero o d.walk.walked.stays (suc c),
        ups-row-zero o' (suc c),
        downs-row-zero o' d'.walk.walked.stays (suc c),
      )
  same-levels (suc c) (suc r) =
      elim (level o d.walk.walked 0 (from-w-lowest o d.walk) d.up (suc c) (suc r)) [
        | inl f ↦
            elim (level o' d'.walk.walked 0 (from-w-lowest o' d'.walk) d'.up (suc c) (suc r)) [
              | inl g ↦ omega arith
              | inr g ↦ absurd (omega (arith, enclosed-level o (at c r) (same c r ∙ level-enclosed o' (at c r) g)))
            ]
        | inr f ↦ omega (arith, enclosed-level o' (at c r) (sym (same c r) ∙ level-enclosed o (at c r) f))
      ]

  same-turns : o ≡ o'
  same-turns = same-walk o o' same_start d.walk.walked d'.walk.walked same-levels

-- ---- cells off the chart are not enclosed

right-leaves : (x y : ℕ) → leaves (at x y) 0 ≡ false → x < side
unfolding leaves
right-leaves x y e = leb-false side x e

up-leaves : (x y : ℕ) → leaves (at x y) 1 ≡ false → y < side
unfolding leaves
up-leaves x y e = leb-false side y e

module _ (o : Outline) (t : Walked o) where
  no-right : (x y : ℕ) → side ≤ x → rights_at o x y ≡ 0
  no-right x y h = rights-none o x y (λ i l e d. off i (t.stays i l) e d)
    where
      off : (i : ℕ) → leaves (corner_at o i) (letter_at o i) ≡ false → letter_at o i ≡ 0 → corner_at o i ≡ at x y → ⊥
      off i f e d = omega (arith, right-leaves x y (rw (e, d) at f))

  no-left : (x y : ℕ) → side ≤ x → lefts_at o x y ≡ 0
  no-left x y h = lefts-none o x y (λ i l e d. omega (arith, t.col_le i (omega arith), ap (λ (p : Point). p.col) d))

  no-up : (x y : ℕ) → side ≤ y → ups_at o x (suc y) ≡ 0
  no-up x y h = ups-none o x y (λ i l e d. off i (t.stays i l) e d)
    where
      off : (i : ℕ) → leaves (corner_at o i) (letter_at o i) ≡ false → letter_at o i ≡ 1 → corner_at o i ≡ at x y → ⊥
      off i f e d = omega (arith, up-leaves x y (rw (e, d) at f))

  -- Right of the chart the level is the same in every row
  level-past : (x : ℕ) → side ≤ x → (R : ℕ) → ups_to o (suc x) R ≡ downs_to o (suc x) R
  level-past x h zero = omega (arith, ups-row-zero o (suc x), downs-row-zero o t.stays (suc x))
  level-past x h (suc R) = omega (arith, jump-horizontal o t.stays t.closed x R, level-past x h R, no-right x R h, no-left x R h)

  ups-past : (C y : ℕ) → side ≤ y → ups_to o C (suc y) ≡ 0
  ups-past zero y h = ups-column-zero o (suc y)
  ups-past (suc C) y h = omega (arith, ups-jump-vertical o C (suc y), ups-past C y h, no-up C y h)

  pub open-right : (c r : ℕ) → side ≤ c → encloses o c r ≡ false
  unfolding encloses
  open-right c r h =
      ne_eqb (ups o.start o.letters c r) (downs o.start o.letters c r + 1)
      (omega (arith, level-past c h (suc r), ups-to o.start o.letters c r, downs-to o.start o.letters c r))

  pub open_above : (c r : ℕ) → side ≤ r → encloses o c r ≡ false
  unfolding encloses
  open_above c r h =
      ne_eqb (ups o.start o.letters c r) (downs o.start o.letters c r + 1)
      (omega (arith, ups-past (suc c) r h, ups-to o.start o.letters c r))

-- No cell off the chart is in a block
pub open-off : (o : Outline) → Simple o → (c r : ℕ) → (side ≤ c) ⊎ (side ≤ r) → block o c r ≡ false
open-off o h c r (inl a) = open-right (clockwise_form o) (walked (clockwise_form o) (simple-form o h)) c r a
open-off o h c r (inr a) = open_above (clockwise_form o) (walked (clockwise_form o) (simple-form o h)) c r a

-- ---- outlines as sent that pass refusals 1 to 6

up_turn : (o : Outline) → Simple o → UpTurn (border o)
up_turn o h = record { walk = from-w-of (clockwise_form o) (simple-form o h); up = leaves-upwards (border o) (clockwise-form o h) }

module _ (o o' : Outline) (h : Simple o) (h' : Simple o') where
  turns-of-cells : SameCells o o' → border o ≡ border o'
  turns-of-cells same =
      same-turns (border o) (border o') (up_turn o h) (up_turn o' h')
      (λ c r. block-from-w o h c r ∙ same c r ∙ sym (block-from-w o' h' c r))

  cells-of-turns : border o ≡ border o' → SameCells o o'
  cells-of-turns e c r = sym (block-from-w o h c r) ∙ ap (λ (v : Outline). encloses v c r) e ∙ block-from-w o' h' c r

  -- Outlines enclose the same block exactly if their borders are equal, wherever they
  -- were started and in whichever direction they were drawn
  pub same-from-w-iff : SameCells o o' ↔ (border o ≡ border o')
  same-from-w-iff = (turns-of-cells, cells-of-turns)

-- ---- outlines that pass refusals 1 to 9: their edges

module _ (o o' : Outline) (h : Reaches o) (h' : Reaches o')
    (d : dent_piece (border o) ≡ 4) (d' : dent_piece (border o') ≡ 4) where
  edges-of-cells : SameCells o o' → SameEdges o o'
  edges-of-cells e =
      let same = (same-from-w-iff o o' h.simple h'.simple).0 e in
      (ap (λ (v : Outline). v.start) same, ap edges same)

  open-past : (c r : ℕ) → (side ≤ c) ⊎ (side ≤ r) → block o c r ≡ block o' c r
  open-past c r p = open-off o h.simple c r p ∙ sym (open-off o' h'.simple c r p)

  cells-of-edges : SameEdges o o' → SameCells o o'
  cells-of-edges (p, q) c r =
      elim (dec_lt c side) [
        | yes a ↦
            elim (dec_lt r side) [
              | yes b ↦
                  sym (edges-answer-sent o h d (at c r) a b)
                  ∙ (λ z. inside_edges (p z) (q z) (at c r))
                  ∙ edges-answer-sent o' h' d' (at c r) a b
              | no b ↦ open-past c r (inr (omega arith))
            ]
        | no a ↦ open-past c r (inl (omega arith))
      ]

  -- They enclose the same cells exactly if they have the same anchor and the same edges
  pub same-cells-iff : SameCells o o' ↔ SameEdges o o'
  same-cells-iff = (edges-of-cells, cells-of-edges)

-- ---- any start

-- Levels do not depend on the corner where the walk starts
ups-around : (o : Outline) (k : ℕ) → Closed o → (C R : ℕ) → ups_to (rotated k o) C R ≡ ups_to o C R
unfolding ups_to
ups-around o k e C R = tally-rotation (rises C R) o k e

downs-around : (o : Outline) (k : ℕ) → Closed o → (C R : ℕ) → downs_to (rotated k o) C R ≡ downs_to o C R
unfolding downs_to
downs-around o k e C R = tally-rotation (falls C R) o k e

levels-from-w : (o : Outline) → Closed o → SameLevels (from_w o) o
unfolding from_w
levels-from-w o e C R = omega (arith, ups-around o (west_place o) e C R, downs-around o (west_place o) e C R)

module _ (o : Outline) (h : Simple o) (k : ℕ) (b : k ≤ size o) where
  pub west-rotation : west (rotated k o) ≡ west o
  unfolding from_w west_place
  west-rotation =
      let d = walked o h in
      first-shared (rotated k o) o (rotated-walked o k b d) d (rotated-corners o k b d.closed) 0

  pub from-w-rotation : from_w (rotated k o) ≡ from_w o
  from-w-rotation =
      let d = walked o h in
      let closed : Closed (rotated k o) = (rotated-walked o k b d).closed in
      same-walk (from_w (rotated k o)) (from_w o) west-rotation (from-w-of (rotated k o) (rotated-simple o k b h)).walked
      (from-w-of o h).walked
      (λ C R.
      omega (
        arith,
        levels-from-w (rotated k o) closed C R,
        levels-from-w o d.closed C R,
        ups-around o k d.closed C R,
        downs-around o k d.closed C R,
      ))

  -- Wherever the outline was started, the border is the same, and so is the block
  pub form-rotation : border (rotated k o) ≡ border o
  form-rotation =
      from-w-form (rotated k o) (rotated-simple o k b h) ∙ ap (λ (v : Outline). cond (clockwise v) v (reversed v)) from-w-rotation
      ∙ sym (from-w-form o h)
