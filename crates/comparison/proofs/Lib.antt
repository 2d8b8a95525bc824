-- The steps along the edges; the columns that an edge bounds; the lists of numbers for the rows; the walk that fills them; the
-- tests of two such walks; the cases of a comparison, and what its words say; taken outlines; the lists exchanged.
pub mod Steps
pub mod Columns
pub mod Lists
pub mod Sweeps
pub mod RowTests
pub mod Cases
pub mod Words
pub mod Outlines
pub mod Exchanged
