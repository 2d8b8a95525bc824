-- Computed words; the order, Lyndon words and their unique factorisation; counts of letters, Christoffel words, the dent criterion and
-- words from counts; the searches.
pub mod Checked
pub mod Order
pub mod Lyndon
pub mod Factors
pub mod Counts
pub mod Duval
pub mod Christoffel
pub mod Coprime
pub mod Slope
pub mod Dent
pub mod Criterion
pub mod Counted
pub mod WordOf
pub mod FirstFactor
pub mod RemainderWalk
pub mod WalkLaws
