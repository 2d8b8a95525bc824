-- Letters written into a list from a place on.
pub mod parts
