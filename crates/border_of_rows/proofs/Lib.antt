-- The laws of writing, the letters round rows part by part, and the pairs of neighbours that a loop has left.
pub mod Writing
pub mod Parts
pub mod Pairs
