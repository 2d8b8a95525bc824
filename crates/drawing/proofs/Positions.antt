-- Which path command is at which position, for every anchor and list: there is one line fewer than edges.
use Prim.Native.Nat.{ℕ, zero, suc, ◌-◌, ◌/◌, ◌<◌, max}
use native.Mathlib.Omega.{arith}
use mathlib.Core.Path.{◌≡◌, refl, ap, ◌∙◌}
use mathlib.Core.List.{List, [], ◌∷◌, ◌++◌}
use lib.ListN.{length, get_or, length-append, get_or-eq_default, get_or-append}
use lib.Seq.{get_or_at}
use lib.IntN.{ℤ, pos, ◌+ℤ◌}
use Rattle.chart.specs.declared.Point.{Point}
use Rattle.convexity.specs.Edges.{Edge, pairs}
use Rattle.std.specs.Prelude.{None}
use Rattle.drawing.specs.Drawing.{Command, a_move, a_close, line_to, lines_from, stroke_at}
use Rattle.drawing.specs.Claims.{Cell, cell_of, corners_from, corners}
use Rattle.drawing.proofs.Walks.{stroke_from, stroke-first, stroke-later}

-- Two numbers are an edge
pairs-length : (es : List ℤ) → length (pairs es) ≡ length es / 2
unfolding pairs
pairs-length [] = omega arith
pairs-length (d ∷ []) = omega arith
pairs-length (dx ∷ dy ∷ es) = omega (arith, pairs-length es)

lines-count : (es : List Edge) (x y : ℤ) → length (lines_from es x y) ≡ length es - 1
unfolding lines_from
lines-count [] x y = omega arith
lines-count (d ∷ []) x y = omega arith
lines-count ((dx, dy) ∷ e ∷ es) x y = omega (arith, lines-count (e ∷ es) (x +ℤ dx) (y +ℤ dy))

pub lines-length : (es : List ℤ) (x y : ℤ) → length (lines_from (pairs es) x y) ≡ length es / 2 - 1
lines-length es x y = omega (arith, lines-count (pairs es) x y, pairs-length es)

-- A line to a cell, on the chart or off it
abbrev pub line_to_cell : Cell → Command
line_to_cell c = line_to c.0 c.1

-- Line n leads to the corner cell reached after n + 1 edges
lines_at : (es : List Edge) (x y : ℤ) (n : ℕ) (c : Cell) → suc n < length es
    → get_or (lines_from es x y) n None ≡ line_to_cell (get_or (corners_from es x y) (suc n) c)
unfolding lines_from corners_from
lines_at [] x y n c h = absurd (omega arith)
lines_at (d ∷ []) x y n c h = absurd (omega arith)
lines_at ((dx, dy) ∷ (ex, ey) ∷ es) x y zero c h = refl
lines_at ((dx, dy) ∷ e ∷ es) x y (suc n) c h = lines_at (e ∷ es) (x +ℤ dx) (y +ℤ dy) n c (omega arith)

module _ (a : Point) (es : List ℤ) where
  -- First the move to the anchor
  pub position-move : stroke_at a es 0 ≡ a_move a
  position-move = stroke-first a es

  -- Then, for each edge but the last, a line to the corner cell reached after n edges
  pub position-line : (n : ℕ) → 0 < n → n < length es / 2 → stroke_at a es n ≡ line_to_cell (get_or (corners a es) n (cell_of a))
  unfolding stroke_from
  position-line zero l h = absurd (omega arith)
  position-line (suc n) l h =
      stroke-later a es n
      ∙ get_or-append (lines_from (pairs es) (pos a.col) (pos a.row)) (a_close ∷ []) None n
      (omega (arith, lines-length es (pos a.col) (pos a.row)))
      ∙ lines_at (pairs es) (pos a.col) (pos a.row) n (cell_of a) (omega (arith, pairs-length es))

  -- Then the close: after the last line, or after the move if there is no line
  pub position-close : stroke_at a es (max 1 (length es / 2)) ≡ a_close
  unfolding stroke_from
  position-close =
      let n : max 1 (length es / 2) ≡ suc (length es / 2 - 1) = omega arith in
      ap (stroke_at a es) n
      ∙ stroke-later a es (length es / 2 - 1)
      ∙ get_or_at (lines_from (pairs es) (pos a.col) (pos a.row)) a_close [] None (length es / 2 - 1)
      (lines-length es (pos a.col) (pos a.row))

  -- Then nothing
  pub position-none : (n : ℕ) → max 1 (length es / 2) < n → stroke_at a es n ≡ None
  unfolding stroke_from
  position-none zero h = absurd (omega arith)
  position-none (suc n) h =
      stroke-later a es n
      ∙ get_or-eq_default (lines_from (pairs es) (pos a.col) (pos a.row) ++ (a_close ∷ [])) None
      (simp length-append (omega (arith, lines-length es (pos a.col) (pos a.row))))
