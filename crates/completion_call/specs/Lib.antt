-- The reply of a completion, what it says about cells, and both in one record.
pub mod Completion
pub mod Named
pub mod parts
