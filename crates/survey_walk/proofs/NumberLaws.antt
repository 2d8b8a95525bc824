-- A letter's stride leads to the number of the next corner, or to a number off the chart. Numbers are ordered as the corners are in a
-- piece's frame:
-- the first digit decides, then the second, and the place only between two visits of one corner.
use Rattle.std.proofs.Common.{◌≡◌, ℕ, zero, suc, ◌+◌, ◌-◌, ◌/◌, ◌%◌, ◌<◌, ◌≤◌, Bool, true, false, ◌&&◌, ◌||◌, eqb, ltb, refl, arith, ltb-false, ltb-true, le-ltb, lt-ltb, eqb-true, leb-false, leb-true}
use native.Mathlib.Decide.{dec_lt}
use borrow.Author.Tests.{eqb-false}
use Rattle.chart.specs.Limits.{side}
use Rattle.chart.specs.declared.Point.{Point}
use Rattle.lattice.specs.Chart.{step, leaves}
use Rattle.lattice.proofs.WalkLaws.{point-eq, OnChart}
use Rattle.convexity.specs.Frame.{frame_of, along}
use Rattle.convexity.specs.Cut.{before}
use Rattle.survey_walk.specs.parts.Numbers.{col_number, col_stride, off_chart, row_number, row_stride}

-- ---- one step

module _ (p : Point) (i : ℕ) (h : OnChart p) (small : i < 1023) where
  pub col-stays : off_chart (col_number p i) ≡ false
  unfolding off_chart
  col-stays = rw (le-ltb side (col_number p i / 1024 % 1024) (omega arith), le-ltb side (col_number p i / 1048576) (omega arith))

  -- What holds of each of the four letters where there is room for its step holds of every letter that stays on the chart
  by-letter : (P : ℕ → Type 0) → (p.col < side → P 0) → (p.row < side → P 1) → (0 < p.col → P 2) → (0 < p.row → P 3)
      → (a : ℕ) → a < 4 → leaves p a ≡ false → P a
  unfolding leaves
  by-letter P right up left down zero l e = right (leb-false side p.col e)
  by-letter P right up left down (suc zero) l e = up (leb-false side p.row e)
  by-letter P right up left down (suc (suc zero)) l e = left (omega (arith, eqb-false p.col 0 e))
  by-letter P right up left down (suc (suc (suc zero))) l e = down (omega (arith, eqb-false p.row 0 e))
  by-letter P right up left down (suc (suc (suc (suc a)))) l e = absurd (omega arith)

  module _ (a : ℕ) (l : a < 4) where
    pub col-next : leaves p a ≡ false → (col_number p i + col_stride a) % 4294967296 ≡ col_number (step p a) (i + 1)
    unfolding step
    col-next =
        by-letter (λ a. (col_number p i + col_stride a) % 4294967296 ≡ col_number (step p a) (i + 1))
        (λ m. omega arith) (λ m. omega arith) (λ m. omega arith) (λ m. omega arith) a l

    pub row_next : leaves p a ≡ false → (row_number p i + row_stride a) % 4294967296 ≡ row_number (step p a) (i + 1)
    unfolding step
    row_next =
        by-letter (λ a. (row_number p i + row_stride a) % 4294967296 ≡ row_number (step p a) (i + 1))
        (λ m. omega arith) (λ m. omega arith) (λ m. omega arith) (λ m. omega arith) a l

-- A number above 255 in its row, or in its column
off-row : (n : ℕ) → side < n / 1024 % 1024 → off_chart n ≡ true
unfolding off_chart
off-row n h = rw (lt-ltb side (n / 1024 % 1024) h)

off-col : (n : ℕ) → side < n / 1048576 → off_chart n ≡ true
unfolding off_chart
off-col n h = go (ltb side (n / 1024 % 1024))
  where
    go : (b : Bool) → (b || ltb side (n / 1048576)) ≡ true
    go true = refl
    go false = lt-ltb side (n / 1048576) h

pub col-leaves : (p : Point) (i : ℕ) → OnChart p → i < 1023 → (a : ℕ) → a < 4 → leaves p a ≡ true
    → off_chart ((col_number p i + col_stride a) % 4294967296) ≡ true
unfolding leaves
col-leaves p i h s zero l e = off-col ((col_number p i + col_stride 0) % 4294967296) (omega (arith, leb-true side p.col e))
col-leaves p i h s (suc zero) l e = off-row ((col_number p i + col_stride 1) % 4294967296) (omega (arith, leb-true side p.row e))
col-leaves p i h s (suc (suc zero)) l e = off-col ((col_number p i + col_stride 2) % 4294967296) (omega (arith, eqb-true p.col 0 e))
col-leaves p i h s (suc (suc (suc zero))) l e = off-row ((col_number p i + col_stride 3) % 4294967296) (omega (arith, eqb-true p.row 0 e))
col-leaves p i h s (suc (suc (suc (suc a)))) l e = absurd (omega arith)

-- ---- the numbers of the set

pub row-injective : (p q : Point) (i j : ℕ) → OnChart p → OnChart q → i < 65536 → j < 65536 → row_number p i / 65536 ≡ row_number q j / 65536
    → p ≡ q
row-injective p q i j h k l m e = point-eq p q (omega arith) (omega arith)

-- ---- the order of a frame

-- Two numbers whose order is that of their first digits, and among equals that of their second ones
lexical : (a b d e x y : ℕ) → (a < b → x < y) → (b < a → y ≤ x) → (a ≡ b → d < e → x < y) → (a ≡ b → e ≤ d → y ≤ x)
    → ltb x y ≡ (ltb a b || (eqb a b && ltb d e))
lexical a b d e x y below above less more =
    elim (dec_lt a b) [
      | yes l ↦ rw (lt-ltb a b l, lt-ltb x y (below l))
      | no n ↦ rw (le-ltb a b (omega arith)) (level (eqb a b) refl (ltb d e) refl n)
    ]
  where
    level : (u : Bool) → eqb a b ≡ u → (v : Bool) → ltb d e ≡ v → (a < b → ⊥) → ltb x y ≡ (u && v)
    level true g true h n = lt-ltb x y (less (eqb-true a b g) (ltb-true d e h))
    level true g false h n = le-ltb x y (more (eqb-true a b g) (ltb-false d e h))
    level false g v h n = le-ltb x y (above (omega (arith, eqb-false a b g)))

-- Two visits: of corners p and q, at places i and j, the first of which is the later one
pub record Visits (p q : Point) (i j : ℕ) : Type 0 where
  pub here : OnChart p
  pub there : OnChart q
  pub order : j ≤ i
  pub small : i < 1024
  pub once : p ≡ q → i ≡ j

-- The first corner in the frame of piece k has the least number, or the greatest
abbrev pub LeastFirst : ℕ → (Point → ℕ → ℕ) → Type 0
LeastFirst k f = (p q : Point) (i j : ℕ) → Visits p q i j → ltb (f p i) (f q j) ≡ before (frame_of k) p q

abbrev pub GreatestFirst : ℕ → (Point → ℕ → ℕ) → Type 0
GreatestFirst k f = (p q : Point) (i j : ℕ) → Visits p q i j → ltb (f q j) (f p i) ≡ before (frame_of k) p q

-- Among equals of both digits the two are one visit
once-at : {p q : Point} {i j : ℕ} → Visits p q i j → p.col ≡ q.col → p.row ≡ q.row → i ≡ j
once-at {p} {q} v e f = v.once (point-eq p q e f)

pub west-least : LeastFirst 0 col_number
unfolding before frame_of along
west-least p q i j v =
    let h = v.here in
    let k = v.there in
    lexical p.col q.col p.row q.row (col_number p i) (col_number q j)
    (λ l. omega (arith, h.col, h.row, k.col, k.row, v.order, v.small))
    (λ l. omega (arith, h.col, h.row, k.col, k.row, v.order, v.small))
    (λ l m. omega (arith, h.col, h.row, k.col, k.row, v.order, v.small))
    (λ l m. omega (arith, h.col, h.row, k.col, k.row, v.order, v.small))

pub north-least : LeastFirst 1 row_number
unfolding before frame_of along
north-least p q i j v =
    let h = v.here in
    let k = v.there in
    lexical (side - p.row) (side - q.row) p.col q.col (row_number p i) (row_number q j)
    (λ l. omega (arith, h.col, h.row, k.col, k.row, v.order, v.small))
    (λ l. omega (arith, h.col, h.row, k.col, k.row, v.order, v.small))
    (λ l m. omega (arith, h.col, h.row, k.col, k.row, v.order, v.small))
    (λ l m. omega (arith, h.col, h.row, k.col, k.row, v.order, v.small))

pub east-greatest : GreatestFirst 2 col_number
unfolding before frame_of along
east-greatest p q i j v =
    let h = v.here in
    let k = v.there in
    lexical (side - p.col) (side - q.col) (side - p.row) (side - q.row) (col_number q j) (col_number p i)
    (λ l. omega (arith, h.col, h.row, k.col, k.row, v.order, v.small))
    (λ l. omega (arith, h.col, h.row, k.col, k.row, v.order, v.small))
    (λ l m. omega (arith, h.col, h.row, k.col, k.row, v.order, v.small))
    (λ l m.
    elim (dec_lt p.row q.row) [
      | yes n ↦ omega (arith, h.col, h.row, k.col, k.row, v.order, v.small)
      | no n ↦ omega (arith, h.col, h.row, k.col, k.row, once-at v (omega (arith, h.col, k.col)) (omega (arith, h.row, k.row)))
    ])

pub south-greatest : GreatestFirst 3 row_number
unfolding before frame_of along
south-greatest p q i j v =
    let h = v.here in
    let k = v.there in
    lexical p.row q.row (side - p.col) (side - q.col) (row_number q j) (row_number p i)
    (λ l. omega (arith, h.col, h.row, k.col, k.row, v.order, v.small))
    (λ l. omega (arith, h.col, h.row, k.col, k.row, v.order, v.small))
    (λ l m. omega (arith, h.col, h.row, k.col, k.row, v.order, v.small))
    (λ l m.
    elim (dec_lt p.col q.col) [
      | yes n ↦ omega (arith, h.col, h.row, k.col, k.row, v.order, v.small)
      | no n ↦ omega (arith, h.col, h.row, k.col, k.row, once-at v (omega (arith, h.col, k.col)) l)
    ])
