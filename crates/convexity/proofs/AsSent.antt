-- The convexity theorem for an outline as sent, drawn in either direction: its clockwise form passes refusals 1 to 6, and its border
-- encloses the same cells, because the counts of a closed walk do not depend on its start.
use Prim.Native.Nat.{ℕ, ◌<◌}
use mathlib.Core.Path.{◌≡◌, ◌∙◌, sym, ap, subst₂}
use mathlib.Core.Logic.{◌↔◌}
use lib.Dec.{lit<}
use Rattle.chart.specs.declared.Point.{Point}
use Rattle.chart.specs.Outline.{Outline}
use Rattle.chart.specs.Limits.{side}
use Rattle.lattice.specs.Chart.{corner_at}
use Rattle.lattice.specs.Enclosed.{encloses}
use Rattle.lattice.specs.Hull.{Missing, LowestMissing}
use Rattle.lattice.specs.Refusals.{Simple}
use Rattle.rows.specs.Search.{missing_cell}
use Rattle.lattice.proofs.WalkLaws.{walked}
use Rattle.lattice.proofs.RightHand.{encloses-rotation}
use Rattle.convexity.specs.Cut.{from_w, west_place, corner_place, cut_corner}
use Rattle.convexity.specs.Clockwise.{clockwise_form, block, border}
use Rattle.convexity.specs.Pieces.{Reaches, IsAnchor, dent_piece, edges}
use Rattle.convexity.specs.Inside.{inside_edges}
use Rattle.lattice.proofs.HullLaws.{missing-same, lowest-same}
use Rattle.convexity.specs.Shape.{NoBackStep}
use Rattle.convexity.proofs.Extreme.{from-w-of}
use Rattle.convexity.proofs.Shape.{shape, straight-of}
use Rattle.convexity.proofs.Levels.{leaves-upwards, anchor-lowest}
use Rattle.convexity.proofs.Clockwise.{simple-form, clockwise-form}
use Rattle.convexity.proofs.Theorem.{edges-answer, dent-iff-missing, search-finds}

module _ (o : Outline) where
  -- Started at W, the walk encloses the same cells
  pub encloses-from-w : Simple o → (c r : ℕ) → encloses (from_w o) c r ≡ encloses o c r
  unfolding from_w
  encloses-from-w h c r = encloses-rotation o (west_place o) (walked o h).closed c r

module _ (o : Outline) where
  -- The block is what the border encloses
  pub block-from-w : Simple o → (c r : ℕ) → encloses (border o) c r ≡ block o c r
  block-from-w h = encloses-from-w (clockwise_form o) (simple-form o h)

  pub clear_of : Reaches o → NoBackStep (border o)
  clear_of h =
      record {
        walk = from-w-of (clockwise_form o) (simple-form o h.simple);
        clockwise = clockwise-form o h.simple;
        straight = straight-of (border o) h.straight;
      }

  module _ (h : Reaches o) where
    abbrev t : Outline
    t = border o

    -- E1: the edges decide which cells are in the block
    pub edges-answer-sent : dent_piece t ≡ 4 → (x : Point) → x.col < side → x.row < side
        → inside_edges t.start (edges t) x ≡ block o x.col x.row
    edges-answer-sent smooth x c r = edges-answer t (clear_of h) smooth x c r ∙ block-from-w h.simple x.col x.row

    -- E2: an outline that passes refusals 1 to 8 is dented exactly if a cell is missing
    pub dented-iff-missing : (dent_piece t < 4) ↔ ((x : Point) × Missing (block o) x)
    dented-iff-missing =
        let e = dent-iff-missing t (clear_of h) in (
          λ d. let (x, m) = e.0 d in (x, missing-same (block-from-w h.simple) m),
          λ m. e.1 (m.0, missing-same (λ c r. sym (block-from-w h.simple c r)) m.1),
        )

    -- E3: the cell found by the search is the lowest missing one
    pub named-lowest : dent_piece t < 4
        → LowestMissing (block o) (missing_cell t (corner_at t (corner_place t 3)).row (corner_at t (corner_place t 1)).row)
    unfolding cut_corner
    named-lowest d =
        let f = shape t (clear_of h) in
        subst₂ (λ (b u : ℕ). LowestMissing (block o) (missing_cell t b u))
        (ap (λ (i : ℕ). (corner_at t i).row) (f.corners 3 (lit< tt)))
        (ap (λ (i : ℕ). (corner_at t i).row) (f.corners 1 (lit< tt)))
        (lowest-same (block-from-w h.simple) (search-finds t (clear_of h) d))

    -- The cell at W is the lowest enclosed cell of the leftmost column
    pub west-anchor : IsAnchor (block o) t.start
    west-anchor =
        let simple = simple-form o h.simple in
        let a = anchor-lowest t (from-w-of (clockwise_form o) simple) (leaves-upwards t (clockwise-form o h.simple)) in
        record {
          enclosed = sym (block-from-w h.simple _ _) ∙ a.enclosed;
          leftmost = λ c r l. sym (block-from-w h.simple c r) ∙ a.leftmost c r l;
          lowest = λ r l. sym (block-from-w h.simple _ r) ∙ a.lowest r l;
        }
