-- The loose query: refusals 10, 11 and 16, then inside or outside (contract 6.2).
use Rattle.std.specs.Prelude.{◌%◌, ◌≡◌, ◌↔◌, Bool, false, cond, ◌||◌, List, length, leb, ltb, eqb, ℤ, Result, Ok, Err}
use Rattle.chart.specs.Limits.{side, longest_list}
use Rattle.chart.specs.declared.Point.{Point}
use Rattle.chart.specs.declared.Fields.{Fields}
use Rattle.chart.specs.Fields.{inside, outside}
use Rattle.convexity.specs.Inside.{inside_edges}
use Rattle.directions.specs.Increasing.{bad_directions}
use Rattle.directions.specs.CornerHull.{CornersHold}
use Rattle.chart.specs.declared.Refusal.{Refusal}
use Rattle.chart.specs.declared.Refusal.TheVariants.{EdgeList, Cell, Directions}
use Rattle.chart.specs.declared.Position.{Position}
use Rattle.chart.specs.declared.Position.TheVariants.{Inside, Outside}

-- Whether a cell is inside, for every list: no cell is inside a list that is too long
unfoldable pub inside_list : Point → List ℤ → Point → Bool
inside_list a es x = cond (ltb longest_list (length es)) false (inside_edges a es x)

-- 10, of a loose query: the count of numbers is odd or too large
unfoldable pub bad_list : List ℤ → Bool
bad_list es = eqb (length es % 2) 1 || ltb longest_list (length es)

-- 11: a number of the cell is above 254
unfoldable pub bad_cell : Point → Bool
bad_cell x = leb side x.col || leb side x.row

-- 16, for every list: a list that is too long is refused
unfoldable pub bad_directions_list : List ℤ → Bool
bad_directions_list es = ltb longest_list (length es) || bad_directions es

unfoldable pub loose_of : Point → List ℤ → Point → Result Position Refusal
loose_of a es x =
    cond (bad_list es) (Err (EdgeList 0))
    (cond (bad_cell a || bad_cell x) (Err Cell)
    (cond (bad_directions es) (Err Directions)
    (cond (inside_edges a es x) (Ok Inside) (Ok Outside))))

-- What the word of a reply says. A query that is not refused replies "inside" exactly when the hull of the corner cells holds the cell,
-- and otherwise "outside"; a refusal has neither word
pub record HullNamed (a : Point) (es : List ℤ) (x : Point) (f : Fields) : Type 0 where
  pub within : (f.word ≡ inside) ↔ ((f.number ≡ 0) × CornersHold a es x)
  pub beyond : (f.word ≡ outside) ↔ ((f.number ≡ 0) × (CornersHold a es x → ⊥))
