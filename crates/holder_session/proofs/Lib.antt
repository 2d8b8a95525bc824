-- The theorem about what C calls, and its consequences.
pub mod Halves
pub mod Theorem
pub mod Entries
pub mod Consequences
pub mod Refusals
pub mod Rows
pub mod Parties
