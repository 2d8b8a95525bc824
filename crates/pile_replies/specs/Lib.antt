-- The fields of the replies of a pile.
pub mod Replies
