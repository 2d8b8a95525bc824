-- Bounds and lines that hold for the cells of a block hold for its hull, because the hull is the union of the triangles of its cells.
-- A block of cells is given by its rows.
use Rattle.std.proofs.Common.{◌≡◌, ℕ, pred, ◌<◌, ◌≤◌, true, false, ◌&&◌, ltb, leb, sym, ◌∙◌, true≢false, arith, ltb-true, lt-ltb, le-leb, leb-true}
use mathlib.Core.Bool.{and-eq-true_iff}
use Rattle.base.proofs.BelowLaws.{not-held}
use Rattle.chart.specs.Limits.{side}
use Rattle.chart.specs.declared.Point.{Point}
use Rattle.lattice.specs.Hull.{InHull}
use Rattle.rows.specs.parts.Rows.{in_rows}
use Rattle.rows.proofs.Line.{Right, right-beyond, right-mean, triangle-above, triangle-below, triangle-cols}

-- Each of rows b to t - 1 has a cell and ends on the chart
pub record Rows (lo hi : ℕ → ℕ) (b t : ℕ) : Type 0 where
  pub below : b < t
  pub nonempty : (r : ℕ) → b ≤ r → r < t → lo r < hi r
  pub fits : (r : ℕ) → b ≤ r → r < t → hi r ≤ side

-- Cell x is in the block
pub record Within (lo hi : ℕ → ℕ) (b t : ℕ) (x : Point) : Type 0 where
  pub above : b ≤ x.row
  pub below : x.row < t
  pub begun : lo x.row ≤ x.col
  pub before : x.col < hi x.row

module _ {lo hi : ℕ → ℕ} {b t : ℕ} (x : Point) where
  pub within-marked : Within lo hi b t x → in_rows lo hi b t x.col x.row ≡ true
  unfolding in_rows
  within-marked h =
      let c = x.col in
      let r = x.row in
      rw (le-leb b r h.above, lt-ltb r t h.below, le-leb (lo r) c h.begun, lt-ltb c (hi r) h.before)

  pub marked-within : in_rows lo hi b t x.col x.row ≡ true → Within lo hi b t x
  unfolding in_rows
  marked-within e =
      let c = x.col in
      let r = x.row in
      let both = (and-eq-true_iff (leb b r && ltb r t) (leb (lo r) c && ltb c (hi r))).0 e in
      let rows = (and-eq-true_iff (leb b r) (ltb r t)).0 both.0 in
      let cols = (and-eq-true_iff (leb (lo r) c) (ltb c (hi r))).0 both.1 in
      record {
        above = leb-true b r rows.0;
        below = ltb-true r t rows.1;
        begun = leb-true (lo r) c cols.0;
        before = ltb-true c (hi r) cols.1;
      }

  pub open-outside : in_rows lo hi b t x.col x.row ≡ false → Within lo hi b t x → ⊥
  open-outside e h = true≢false (sym (within-marked h) ∙ e)

  pub outside-open : (Within lo hi b t x → ⊥) → in_rows lo hi b t x.col x.row ≡ false
  outside-open h = not-held (in_rows lo hi b t x.col x.row) (λ e. h (marked-within e))

-- The first cell of a row
abbrev pub begin : (ℕ → ℕ) → ℕ → Point
begin lo r = record { col = lo r; row = r }

pub begin-marked : {lo hi : ℕ → ℕ} {b t : ℕ} → Rows lo hi b t → (r : ℕ) → b ≤ r → r < t → in_rows lo hi b t (lo r) r ≡ true
begin-marked {lo} k r h l = within-marked (begin lo r) (record { above = h; below = l; begun = omega arith; before = k.nonempty r h l })

pub within-cols : {lo hi : ℕ → ℕ} {b t : ℕ} {x : Point} → Rows lo hi b t → Within lo hi b t x → x.col < side
within-cols {x = x} k h = omega (arith, k.fits x.row h.above h.below)

module _ {lo hi : ℕ → ℕ} {b t : ℕ} {x : Point} (k : Rows lo hi b t) (h : InHull (in_rows lo hi b t) x) where
  -- The corners of the triangle are cells of the block
  pub p-within : Within lo hi b t h.p
  p-within = marked-within h.p h.p_marked

  pub q-within : Within lo hi b t h.q
  q-within = marked-within h.q h.q_marked

  pub t_within : Within lo hi b t h.t
  t_within = marked-within h.t h.t_marked

  pub hull-above : b ≤ x.row
  hull-above = triangle-above b h.triangle p-within.above q-within.above t_within.above

  pub hull-below : x.row < t
  hull-below =
      let l =
      triangle-below (pred t) h.triangle (omega (arith, p-within.below)) (omega (arith, q-within.below))
      (omega (arith, t_within.below)) in
      omega (arith, k.below)

  pub hull-cols : x.col < side
  hull-cols =
      let l =
      triangle-cols (pred side) h.triangle (omega (arith, within-cols k p-within)) (omega (arith, within-cols k q-within))
      (omega (arith, within-cols k t_within)) in
      omega arith

  -- If every row begins right of a line, then the whole hull is right of the line
  pub hull-right : {p q : Point} → p.row ≤ q.row → ((r : ℕ) → b ≤ r → r < t → Right p q (begin lo r)) → Right p q x
  hull-right {p} {q} l f = right-mean h.triangle (cell h.p p-within) (cell h.q q-within) (cell h.t t_within)
    where
      cell : (y : Point) → Within lo hi b t y → Right p q y
      cell y w = right-beyond (lo y.row) l w.begun (f y.row w.above w.below)
