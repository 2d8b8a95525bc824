-- What a restore may leave at a place; what a save gives.
pub mod Came
pub mod Saved
