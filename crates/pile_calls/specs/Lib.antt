-- A pile is two arrays: what each call does to them, and a check in steps.
pub mod Arrays
pub mod Steps
