-- What a refused call leaves, by value.
pub mod Refused
