-- What the plain book's replies mean: questions, closes, refusals and parties, after any list of calls.
pub mod Taken
pub mod Queries
pub mod Closes
pub mod Rows
pub mod Readings
pub mod Pieces
pub mod Refusals
pub mod Parties
