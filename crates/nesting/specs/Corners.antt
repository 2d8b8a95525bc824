-- Tests of the corner cells of a list of edges: all on the chart; all inside another polygon.
use Rattle.std.specs.Prelude.{Bool, ◌&&◌, List, [], ◌∷◌, ℤ, ◌+ℤ◌}
use Rattle.convexity.specs.Edges.{Edge}
use Rattle.convexity.specs.Inside.{inside_at}
use Rattle.directions.specs.CornerHull.{is_on_chart}

-- Every corner cell of the edges es from (x, y) passes a test
unfoldable pub every_corner : (ℤ → ℤ → Bool) → List Edge → ℤ → ℤ → Bool
every_corner f [] x y = f x y
every_corner f ((dx, dy) ∷ es) x y = f x y && every_corner f es (x +ℤ dx) (y +ℤ dy)

-- All of them are on the chart
unfoldable pub corners_on_chart : List Edge → ℤ → ℤ → Bool
corners_on_chart es x y = every_corner is_on_chart es x y

-- All of them are inside the polygon of the edges fs from (a, b)
unfoldable pub corners_inside : List Edge → ℤ → ℤ → List Edge → ℤ → ℤ → Bool
corners_inside es x y fs a b = every_corner (inside_at fs a b) es x y
