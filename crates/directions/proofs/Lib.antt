-- Cross products; the order of directions; every corner cell is on the inner side of every edge; lists that pass refusal 16; means, and
-- the hull is inside; the fan of triangles, and the inside is in the hull; fewer than three edges; the theorem; laws of the order; edges
-- by index; the edges of taken outlines and their corner cells; the numbers of the chart.
pub mod Cross
pub mod Directions
pub mod Corners
pub mod Passing
pub mod Means
pub mod HullInside
pub mod Fan
pub mod InsideHull
pub mod Short
pub mod Theorem
pub mod Round
pub mod Edges
pub mod Taken
pub mod Cells
pub mod OnChart
