-- Piles and the model in step; a check in steps; the theorems about lists of calls; what a refused call leaves; each moment of a call;
-- saves.
pub mod InStep
pub mod Steps
pub mod Theorem
pub mod Unaltered
pub mod Instant
pub mod Saved
pub mod Distance
