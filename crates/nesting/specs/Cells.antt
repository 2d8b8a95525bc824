-- What the five words of a comparison say about two sets of cells: those of two
-- hulls, and those that two outlines enclose (contract 6.4).
use Rattle.std.specs.Prelude.{◌≡◌, true, false, List, ℤ, pos}
use Rattle.chart.specs.declared.Point.{Point}
use Rattle.chart.specs.Outline.{Outline}
use Rattle.chart.specs.declared.Nesting.{Nesting}
use Rattle.chart.specs.declared.Nesting.TheVariants.{Equal, FirstWithin, SecondWithin, Apart, Crossing}
use Rattle.convexity.specs.Edges.{Edge, pairs}
use Rattle.convexity.specs.Clockwise.{block}
use Rattle.directions.specs.Increasing.{bad_edges}
use Rattle.directions.specs.CornerHull.{InCornerHull}
use Rattle.nesting.specs.Corners.{corners_on_chart}

-- An anchor and edges
pub record Polygon : Type 0 where
  pub anchor : Point
  pub edges : List Edge

abbrev pub polygon : Point → List ℤ → Polygon
polygon a es = record { anchor = a; edges = pairs es }

-- What a polygon must satisfy: its edges pass refusal 16, and its corner cells are on the chart
pub record Fit (p : Polygon) : Type 0 where
  pub passes : bad_edges p.edges ≡ false
  pub placed : corners_on_chart p.edges (pos p.anchor.col) (pos p.anchor.row) ≡ true

-- The hull of the corner cells holds the cell
abbrev pub Holds : Polygon → Point → Type 0
Holds p x = InCornerHull p.edges (pos p.anchor.col) (pos p.anchor.row) (pos x.col) (pos x.row)

-- ---- two sets of cells

-- Every cell of the first is in the second
abbrev pub Within : (Point → Type 0) → (Point → Type 0) → Type 0
Within P Q = (x : Point) → P x → Q x

-- A cell of the first that is not in the second
pub record Beyond (P Q : Point → Type 0) : Type 0 where
  pub cell : Point
  pub in_first : P cell
  pub not_second : Q cell → ⊥

-- A cell in both
pub record Common (P Q : Point → Type 0) : Type 0 where
  pub cell : Point
  pub in_first : P cell
  pub in_second : Q cell

-- What an answer says about two sets of cells
abbrev pub SaysOf : (Point → Type 0) → (Point → Type 0) → Nesting → Type 0
SaysOf P Q Equal = Within P Q × Within Q P
SaysOf P Q FirstWithin = Within P Q × Beyond Q P
SaysOf P Q SecondWithin = Within Q P × Beyond P Q
SaysOf P Q Apart = Common P Q → ⊥
SaysOf P Q Crossing = Common P Q × Beyond P Q × Beyond Q P

-- What it says about the cells in two hulls
abbrev pub Says : Polygon → Polygon → Nesting → Type 0
Says p q v = SaysOf (Holds p) (Holds q) v

-- The cells that an outline encloses (contract 2.4)
abbrev pub Encloses : Outline → Point → Type 0
Encloses o x = block o x.col x.row ≡ true
