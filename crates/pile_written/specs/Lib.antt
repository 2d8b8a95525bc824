-- A call on a pile as C makes it.
pub mod Written
