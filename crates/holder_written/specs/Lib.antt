-- A call as C makes it.
pub mod Written
