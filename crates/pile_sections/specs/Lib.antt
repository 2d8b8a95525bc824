-- The sections of a pile's layers, their marked cells, and what a check means.
pub mod Sections
pub mod Runs
pub mod Meaning
