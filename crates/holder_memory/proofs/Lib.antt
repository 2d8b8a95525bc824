-- The slot that no place names; how far the words lie apart.
pub mod Free
pub mod Distance
