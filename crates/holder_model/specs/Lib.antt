-- The model; the outline last taken; the calls of one party.
pub mod Book
pub mod LastTaken
pub mod Parties
