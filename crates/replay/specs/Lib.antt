-- A list of calls as bytes, and the replies as numbers.
pub mod Script
