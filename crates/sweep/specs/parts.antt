-- Promises between the functions of the crate. Nothing here needs to be believed.
pub mod Sweep
pub mod Tests
