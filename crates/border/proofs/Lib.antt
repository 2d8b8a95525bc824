-- Directions by the machine's tests; what is still to be written after one more edge.
pub mod Directions
pub mod Remainders
pub mod Writing
pub mod RestLaws
pub mod Building
pub mod TraceLaws
