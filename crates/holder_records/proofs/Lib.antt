-- The count of numbers at work; the place that a call reaches.
pub mod Listed
pub mod Places
