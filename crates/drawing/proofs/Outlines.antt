-- The corner cells of a taken outline are on the chart and its edges lead round, so
-- the points of its drawing are its corner cells, whose hull is its block.
use Prim.Native.Nat.{◌<◌}
use native.Mathlib.Nat.{lt_trans}
use mathlib.Core.Path.{◌≡◌, sym, ap}
use mathlib.Core.Logic.Iff
use mathlib.Core.Logic.{◌↔◌}
use mathlib.Core.Bool.{true}
use mathlib.Core.List.{List, [], ◌∷◌, ◌++◌, map, Memᴰ}
use lib.Dec.{lit<}
use lib.IntN.{ℤ, pos, nat_abs}
use Rattle.chart.specs.Limits.{side}
use Rattle.chart.specs.declared.Point.{Point}
use Rattle.chart.specs.Outline.{Outline}
use Rattle.convexity.specs.Clockwise.{border, block}
use Rattle.convexity.specs.Edges.{pairs}
use Rattle.convexity.specs.Pieces.{Reaches, dent_piece, edges}
use Rattle.convexity.proofs.Shape.{shape}
use Rattle.convexity.proofs.Inside.{IsCell, edges-return}
use Rattle.convexity.proofs.AsSent.{clear_of, edges-answer-sent}
use Rattle.directions.proofs.Theorem.{inside-iff-hull}
use Rattle.directions.proofs.Taken.{taken-passes}
use Rattle.directions.proofs.Cells.{corner-is-cell}
use Rattle.drawing.specs.Drawing.{Command, a_move, a_line, a_close, drawing}
use Rattle.drawing.specs.Claims.{cell_of, corners, again, InHullOf, Draws}
use Rattle.drawing.proofs.Halves.{half-raised}
use Rattle.drawing.proofs.Corners.{ends_from, Stays, lines_are, corners-are, met-point, hull-iff}

cell-on : {p : Point} → IsCell (pos p.col) (pos p.row) → (p.col < side) × (p.row < side)
cell-on c = (rw (ap nat_abs c.col-is) c.col-on, rw (ap nat_abs c.row_is) c.row_on)

-- An outline as sent
module _ (o : Outline) (h : Reaches o) (smooth : dent_piece (border o) ≡ 4) where
  abbrev a : Point
  a = (border o).start

  abbrev es : List ℤ
  es = edges (border o)

  abbrev ends : List Point
  ends = ends_from (pairs es) (pos a.col) (pos a.row)

  stays : Stays (pairs es) (pos a.col) (pos a.row)
  stays = corner-is-cell (border o) (clear_of o h)

  drawn : drawing a es ≡ a_move a ∷ map a_line ends ++ (a_close ∷ [])
  unfolding drawing
  drawn = ap (λ (ss : List Command). a_move a ∷ ss ++ (a_close ∷ [])) (lines_are (pairs es) (pos a.col) (pos a.row) stays)

  met : corners a es ≡ map cell_of (a ∷ ends) ++ again a (pairs es)
  met = let back = edges-return (border o) (shape (border o) (clear_of o h)) in corners-are a (pairs es) stays back.0 back.1

  enclosed-iff : (x : Point) → x.col < side → x.row < side → (block o x.col x.row ≡ true) ↔ InHullOf (a ∷ ends) x
  enclosed-iff x c r =
      rw (sym (edges-answer-sent o h smooth x c r))
      (Iff.trans (inside-iff-hull a es x (taken-passes o h smooth)) (hull-iff a es ends met x))

  on_chart : (p : Point) → Memᴰ p (a ∷ ends) → (p.col < side) × (p.row < side)
  on_chart p m = cell-on (stays _ _ (met-point a es ends met m))

  -- What is claimed of its drawing holds
  pub outline-draws : Draws a es (block o)
  outline-draws =
      record {
        ends = ends;
        pieces = drawn;
        met = met;
        on_chart = on_chart;
        raised = λ p m. let (c, r) = on_chart p m in
            (half-raised p.col (lt_trans c (lit< tt)), half-raised p.row (lt_trans r (lit< tt)));
        turning = taken-passes o h smooth;
        hull = enclosed-iff;
      }
