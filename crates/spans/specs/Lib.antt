-- The columns that an outline encloses in each row: by a search, and as a table.
pub mod Spans
