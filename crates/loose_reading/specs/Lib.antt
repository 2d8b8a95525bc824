-- The reply to a loose reading, and what it means.
pub mod Read
