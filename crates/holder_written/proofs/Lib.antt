-- A call with its reply written.
pub mod Written
