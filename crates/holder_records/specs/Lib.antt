-- A draft, a work, and what a call does to the two.
pub mod Draft
pub mod Work
pub mod Acts
