-- A call in place, and then its reply written.
pub mod Written
