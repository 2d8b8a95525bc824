-- Pairs of polygons, and how their cells lie (contract 6.4). All rows are proved together (proofs/Specimens.antt).
use Rattle.std.specs.Prelude.{ℕ, List, [], ◌∷◌, ℤ, pos, negsuc}
use Rattle.chart.specs.Outline.{at}
use Rattle.chart.specs.declared.Nesting.{Nesting}
use Rattle.chart.specs.declared.Nesting.TheVariants.{Equal, FirstWithin, SecondWithin, Apart, Crossing}
use Rattle.nesting.specs.Cells.{Polygon, polygon}

-- Two polygons, and the answer
pub record Pair : Type 0 where
  pub first : Polygon
  pub second : Polygon
  pub answer : Nesting

from : ℕ → ℕ → List ℤ → Polygon
from c r es = polygon (at c r) es

-- A square of nine cells, and the triangle of three cells in its corner
square : List ℤ
square = pos 0 ∷ pos 2 ∷ pos 2 ∷ pos 0 ∷ pos 0 ∷ negsuc 1 ∷ negsuc 1 ∷ pos 0 ∷ []

triangle : List ℤ
triangle = pos 0 ∷ pos 1 ∷ pos 1 ∷ negsuc 0 ∷ negsuc 0 ∷ pos 0 ∷ []

pair : Polygon → Polygon → Nesting → Pair
pair p q v = record { first = p; second = q; answer = v }

-- The square with itself, and with a cell of its border; segments that cross between cells, and in a cell that is a corner cell of
-- neither; triangles side by side, and with a common corner cell; the last cell of the chart
unfoldable pub specimens : List Pair
unfolding from square triangle pair
specimens =
    pair (from 1 1 square) (from 1 1 square) Equal ∷
    pair (from 2 3 []) (from 1 1 square) FirstWithin ∷
    pair (from 1 1 square) (from 2 3 []) SecondWithin ∷
    pair (from 0 0 (pos 1 ∷ pos 1 ∷ negsuc 0 ∷ negsuc 0 ∷ [])) (from 0 1 (pos 1 ∷ negsuc 0 ∷ negsuc 0 ∷ pos 1 ∷ [])) Apart ∷
    pair (from 0 0 (pos 2 ∷ pos 2 ∷ negsuc 1 ∷ negsuc 1 ∷ [])) (from 0 1 (pos 2 ∷ pos 0 ∷ negsuc 1 ∷ pos 0 ∷ [])) Crossing ∷
    pair (from 0 0 triangle) (from 2 0 triangle) Apart ∷
    pair (from 0 0 triangle) (from 1 0 triangle) Crossing ∷
    pair (from 253 254 (pos 1 ∷ pos 0 ∷ negsuc 0 ∷ pos 0 ∷ [])) (from 254 253 (pos 0 ∷ pos 1 ∷ pos 0 ∷ negsuc 0 ∷ [])) Crossing ∷ []
