-- A holder by value.
pub mod Values
