-- Promises between the functions of the crate. Nothing here needs to be believed.
pub mod Span
pub mod Turns
