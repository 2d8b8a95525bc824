-- The convexity theorem: without a dent, under the four paths and on the right side of
-- all edges are the same, and a mean of cells keeps every side.
-- E1: enclosed means under the four paths, inside means on the right side of all edges, and without a dent the two agree in each frame.
-- E2: so without a dent no cell is missing; with one, a point above a path is. E3: the ends of the rows give the lowest missing cell.
use Prim.Native.Nat.{ℕ, zero, suc, ◌+◌, ◌-◌, ◌*◌, ◌≤◌, ◌<◌, suc-le-suc}
use native.Mathlib.Omega.{arith}
use native.Mathlib.Decide.{dec_lt}
use mathlib.Core.Path.{◌≡◌, sym, ◌∙◌, subst}
use mathlib.Core.Logic.{◌↔◌}
use mathlib.Core.Bool.{true, false, true≢false}
use Rattle.words.specs.Word.{Word, laters}
use Rattle.words.proofs.Factors.{factors-exist}
use Rattle.base.proofs.BelowLaws.{same_test, first-le}
use Rattle.chart.specs.declared.Point.{Point}
use Rattle.chart.specs.Outline.{Outline, at}
use Rattle.chart.specs.Limits.{side}
use Rattle.lattice.specs.Enclosed.{encloses}
use Rattle.lattice.specs.Hull.{InTriangle, InHull, Missing, LowestMissing}
use Rattle.rows.specs.Search.{up_column, down_column, missing_cell}
use Rattle.convexity.specs.Frame.{frame_of, next}
use Rattle.convexity.specs.Pieces.{word, factors, dent_piece, edges}
use Rattle.convexity.specs.Inside.{inside_edges}
use Rattle.base.proofs.Mean.{mean-mirror, mean-at-least}
use Rattle.lattice.proofs.HullLaws.{missing-same, lowest-same}
use Rattle.rows.specs.parts.Rows.{in_rows}
use Rattle.convexity.specs.Shape.{NoBackStep, Shape}
use Rattle.convexity.proofs.Frame.{Sides}
use Rattle.convexity.specs.parts.InFrame.{start_e, start_l, cell_e, cell_l, cell_along, UnderFrom}
use Rattle.convexity.proofs.Ring.{next-lt, cell-next}
use Rattle.convexity.proofs.Shape.{shape}
use Rattle.convexity.proofs.UnderLaws.{under-from-left, under-from-high}
use Rattle.convexity.proofs.Crossings.{UnderPiece}
use Rattle.convexity.proofs.RowEnds.{enclosed-iff, enclosed-on-chart, enclosed-row, row_ends, row-convex, row_fits, bottom-lt-top}
use Rattle.convexity.proofs.RowEnds.{bottom, top}
use Rattle.convexity.proofs.SidesFrom.{underfrom-iff-sides, sides-mean}
use Rattle.convexity.proofs.Inside.{inside-iff}
use Rattle.convexity.proofs.Smooth.{smooth-edges}
use Rattle.convexity.proofs.DentMissing.{dent-missing}
use Rattle.rows.proofs.Line.{triangle-cols, triangle-below}
use Rattle.rows.proofs.Rows.{Rows, Within, within-marked, marked-within}
use Rattle.rows.proofs.Gaps.{search-lowest}

-- A cell on the chart
CellOnChart : Point → Type 0
CellOnChart x = (x.col < side) × (x.row < side)

-- The mean of three cells in a frame
along-mean : (l : ℕ) {x p q u : Point} (v : InTriangle x p q u) → CellOnChart x → CellOnChart p → CellOnChart q → CellOnChart u
    → (v.a + v.b + v.c) * cell_along l x ≡ v.a * cell_along l p + v.b * cell_along l q + v.c * cell_along l u
unfolding cell_along CellOnChart
along-mean zero v xs ps qs us = v.cols
along-mean (suc zero) v xs ps qs us = v.rows
along-mean (suc (suc zero)) v xs ps qs us =
    mean-mirror (side - 1) v.a v.b v.c _ _ _ _ _ _ _ _ (omega arith) (omega arith) (omega arith) (omega arith) v.cols
along-mean (suc (suc (suc l))) v xs ps qs us =
    mean-mirror (side - 1) v.a v.b v.c _ _ _ _ _ _ _ _ (omega arith) (omega arith) (omega arith) (omega arith) v.rows

module _ (o : Outline) (straight : NoBackStep o) where
  abbrev formed : Shape o
  formed = shape o straight

  -- A cell within the next piece's extreme is no higher than this piece reaches
  high-next : (x : Point) → x.col < side → x.row < side → ((k : ℕ) → k < 4 → start_e o k ≤ cell_e k x) → (k : ℕ) → k < 4
      → cell_l k x ≤ start_l o k + laters (word o k)
  high-next x c r within k h = omega (arith, cell-next k x c r, within (next k) (next-lt k), formed.next_earlier k h)

  -- Without a dent, under the path of a piece is the same as on the right side of its edges
  under-sides : dent_piece o ≡ 4 → (k : ℕ) → k < 4 → (P Q : ℕ) → start_e o k ≤ P → Q ≤ start_l o k + laters (word o k)
      → UnderFrom (word o k) (start_e o k) (start_l o k) P Q ↔ Sides (factors o k) (start_e o k) (start_l o k) P Q
  unfolding factors
  under-sides smooth k h P Q left high =
      let whole = (factors-exist (word o k)).whole in
      subst (λ (w : Word). UnderFrom w (start_e o k) (start_l o k) P Q ↔ Sides (factors o k) (start_e o k) (start_l o k) P Q) whole
      (underfrom-iff-sides (factors o k) (smooth-edges o smooth k h) (start_e o k) (start_l o k) P Q left
      (subst (λ (w : Word). Q ≤ start_l o k + laters w) (sym whole) high))

  -- A cell under the four paths; a cell within the extremes and on the right side of all edges
  UnderAll : Point → Type 0
  UnderAll x = (k : ℕ) → k < 4 → UnderPiece o k x

  SidesAll : Point → Type 0
  SidesAll x = (k : ℕ) → k < 4 → (start_e o k ≤ cell_e k x) × Sides (factors o k) (start_e o k) (start_l o k) (cell_e k x) (cell_l k x)

  all-under-iff-sides : dent_piece o ≡ 4 → (x : Point) → x.col < side → x.row < side → UnderAll x ↔ SidesAll x
  unfolding UnderAll SidesAll
  all-under-iff-sides smooth x c r = (
    λ under k h.
        let left = under-from-left _ _ _ _ _ (under k h) in
        (left, (under-sides smooth k h (cell_e k x) (cell_l k x) left (under-from-high _ _ _ _ _ (under k h))).0 (under k h)),
    λ sides k h.
        (under-sides smooth k h (cell_e k x) (cell_l k x) (sides k h).0 (high-next x c r (λ j l. (sides j l).0) k h)).1 (sides k h).1,
  )

  -- E1: the edges decide which cells are in the block
  pub edges-answer : dent_piece o ≡ 4 → (x : Point) → x.col < side → x.row < side
      → inside_edges o.start (edges o) x ≡ encloses o x.col x.row
  unfolding UnderAll SidesAll
  edges-answer smooth x c r =
      let both = all-under-iff-sides smooth x c r in
      let enclosed = enclosed-iff o straight x c r in
      same_test (inside_edges o.start (edges o) x) (encloses o x.col x.row) (inside-iff o formed x c r)
      (λ e. both.0 (enclosed.0 e), λ a. enclosed.1 (both.1 a))

  -- A mean of cells within the extremes and on the right side of all edges is such a cell too
  sides-all-mean : {x p q u : Point} → InTriangle x p q u → CellOnChart x → CellOnChart p → CellOnChart q → CellOnChart u → SidesAll p
      → SidesAll q → SidesAll u → SidesAll x
  unfolding SidesAll cell_e cell_l
  sides-all-mean v xs ps qs us sp sq su k h =
      let across = along-mean (frame_of k).earlier v xs ps qs us in
      let up = along-mean (frame_of k).later v xs ps qs us in (
        mean-at-least v.a v.b v.c _ _ _ _ _ v.above_zero across (sp k h).0 (sq k h).0 (su k h).0,
        sides-mean (factors o k) _ _ v.a v.b v.c _ _ _ _ _ _ _ _ v.above_zero across up (sp k h).1 (sq k h).1 (su k h).1,
      )

  -- An enclosed cell is on the chart; without a dent it is on the right side of all edges
  enclosed-sides : dent_piece o ≡ 4 → (x : Point) → encloses o x.col x.row ≡ true → CellOnChart x × SidesAll x
  unfolding CellOnChart UnderAll
  enclosed-sides smooth x e =
      let on = enclosed-on-chart o straight x.col x.row e in
      (on, (all-under-iff-sides smooth x on.0 on.1).0 ((enclosed-iff o straight x on.0 on.1).0 e))

  -- Without a dent every cell of the hull is enclosed: means keep the extremes and the sides
  smooth-convex : dent_piece o ≡ 4 → (x : Point) → InHull (encloses o) x → encloses o x.col x.row ≡ true
  unfolding CellOnChart UnderAll
  smooth-convex smooth x h =
      let v = h.triangle in
      let p = enclosed-sides smooth h.p h.p_marked in
      let q = enclosed-sides smooth h.q h.q_marked in
      let u = enclosed-sides smooth h.t h.t_marked in
      let xc : x.col < side = suc-le-suc (triangle-cols (side - 1) v (omega arith) (omega arith) (omega arith)) in
      let xr : x.row < side = suc-le-suc (triangle-below (side - 1) v (omega arith) (omega arith) (omega arith)) in
      (enclosed-iff o straight x xc xr).1
      ((all-under-iff-sides smooth x xc xr).1 (sides-all-mean v (xc, xr) p.0 q.0 u.0 p.1 q.1 u.1))

  dent_piece-le : dent_piece o ≤ 4
  unfolding dent_piece
  dent_piece-le = first-le _ 4

  -- E2: there is a dent exactly if a cell is missing
  pub dent-iff-missing : (dent_piece o < 4) ↔ ((x : Point) × Missing (encloses o) x)
  dent-iff-missing = (
    dent-missing o straight,
    λ m.
        elim (dec_lt (dent_piece o) 4) [
          | yes l ↦ l
          | no n ↦
              let smooth : dent_piece o ≡ 4 = omega (arith, dent_piece-le) in
              absurd (true≢false (sym (smooth-convex smooth m.0 m.1.hull) ∙ m.1.open_cell))
        ],
  )

  -- The rows of the block, from its up to its down
  abbrev lo : ℕ → ℕ
  lo r = up_column o.start o.letters r 0

  abbrev hi : ℕ → ℕ
  hi r = down_column o.start o.letters r 0

  block-rows : Rows lo hi (bottom o) (top o)
  block-rows = record { below = bottom-lt-top o straight; nonempty = row-convex o straight; fits = row_fits o straight }

  -- The cells of these rows are the enclosed ones
  enclosed-rows : (c r : ℕ) → encloses o c r ≡ in_rows lo hi (bottom o) (top o) c r
  enclosed-rows c r =
      same_test (encloses o c r) (in_rows lo hi (bottom o) (top o) c r) (there, back) (marked-within (at c r), within-marked (at c r))
    where
      there : encloses o c r ≡ true → Within lo hi (bottom o) (top o) (at c r)
      there e =
          let row = enclosed-row o straight c r e in
          let ends = (row_ends o straight r row.0 row.1 c).0 e in
          record { above = row.0; below = row.1; begun = ends.0; before = ends.1 }

      back : Within lo hi (bottom o) (top o) (at c r) → encloses o c r ≡ true
      back h = (row_ends o straight r h.above h.below c).1 (h.begun, h.before)

  -- E3: the search finds the lowest missing cell, leftmost in its row
  pub search-finds : dent_piece o < 4 → LowestMissing (encloses o) (missing_cell o (bottom o) (top o))
  unfolding missing_cell
  search-finds d =
      let (x, m) = dent-iff-missing.0 d in
      lowest-same (λ c r. sym (enclosed-rows c r)) (search-lowest block-rows x (missing-same enclosed-rows m))
