-- A save and the first half of a restore as C makes them.
pub mod Written
