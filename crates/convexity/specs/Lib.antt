-- From the border to the edges: frames, cut places, the clockwise form, edges, pieces, factors and dents, the inside of a list of edges,
-- directions; from the edges back to the border; the shape without back-steps; two outlines compared; where the pieces lead.
pub mod Frame
pub mod Cut
pub mod Corners
pub mod Clockwise
pub mod Edges
pub mod Pieces
pub mod Inside
pub mod Directions
pub mod FromEdges
pub mod Border
pub mod Shape
pub mod SameBlock
pub mod Leads
pub mod parts
