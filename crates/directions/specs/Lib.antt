-- The order of directions; refusal 16; cells of the chart; the corner cells of a list of edges, and their hull.
pub mod Round
pub mod Increasing
pub mod CornerHull
