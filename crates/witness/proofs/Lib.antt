-- The three cells have the cell in their triangle; the search by rows finds the lowest missing cell; the first interval of a row ends at
-- its second side; the theorems for an outline, and for the reply of a witness call; the invariants of the loops over letters and rows.
pub mod Three
pub mod Gap
pub mod FirstInterval
pub mod Theorem
pub mod Answer
pub mod Kept
pub mod Steps
pub mod Alike
pub mod Specimens
