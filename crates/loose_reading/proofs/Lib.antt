-- What a loose reading's reply means.
pub mod Meaning
