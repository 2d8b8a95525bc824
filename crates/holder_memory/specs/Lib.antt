-- A holder in four arrays: where everything stands, and the words of the places.
pub mod Layout
pub mod Words
