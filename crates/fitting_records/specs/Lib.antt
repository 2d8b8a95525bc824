-- What stands at a position of a fitting file, and where the next record begins.
pub mod Found
