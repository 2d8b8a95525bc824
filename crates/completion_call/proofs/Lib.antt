-- The rows that the code finds are the hull's; what a reply says; the call's theorems.
pub mod HullEnds
pub mod CompletedLaws
pub mod Theorems
