-- Tests of corner cells; a mean of inside cells is inside; one polygon within another by its corner cells; the interval of a row; common
-- cells by rows; the answer, also for the cells of taken outlines and with the polygons exchanged; specimens.
pub mod CornerTests
pub mod Means
pub mod Within
pub mod Runs
pub mod Meet
pub mod Answer
pub mod Blocks
pub mod Exchanged
pub mod Specimens
