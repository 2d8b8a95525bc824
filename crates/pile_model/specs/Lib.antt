-- The calls on a pile, and its model.
pub mod Calls
pub mod Book
