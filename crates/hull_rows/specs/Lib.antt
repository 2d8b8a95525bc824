-- What the pass up one side of a hull writes, and the row that begins furthest left.
pub mod parts
