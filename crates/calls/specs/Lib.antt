-- Calls, and their replies in seven fields.
pub mod Calls
pub mod Replies
