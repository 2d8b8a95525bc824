-- A test of rows that changes along an edge; points on chords, and the cells between two; the least first column and the greatest end;
-- the interval of a row; the tests.
pub mod Through
pub mod Chords
pub mod Between
pub mod Items
pub mod Runs
pub mod Tests
