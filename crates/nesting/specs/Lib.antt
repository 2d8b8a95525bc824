-- Polygons, and what is said about the cells of two; tests of the corner cells; the
-- columns of a row; the answer by these tests; specimens.
pub mod Cells
pub mod Corners
pub mod Rows
pub mod Answer
pub mod Specimens
