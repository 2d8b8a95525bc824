-- Paths that meet no corner twice; the path round a block of rows: its letters, their count, that it passes refusals 1 to 6 and marks the
-- block. The edges and the rows of a hull. The block of an outline is 4-connected; the ends of its rows, from its sides. The completion.
pub mod Paths
pub mod Segments
pub mod Hood
pub mod Round
pub mod Marks
pub mod Count
pub mod Written
pub mod FromWest
pub mod Edges
pub mod LeftSide
pub mod HullRows
pub mod Joined
pub mod BlockEnds
pub mod Folds
pub mod Sides
pub mod Perimeter
pub mod Extent
pub mod Columns
pub mod Theorem
pub mod Answers
pub mod OwnRows
pub mod Specimens
