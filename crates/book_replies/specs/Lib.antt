-- The plain book's reply after a list of calls, and when it is a refusal.
pub mod After
pub mod Refused
