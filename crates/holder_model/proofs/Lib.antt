-- The same block by its cells; the outline last taken; parties are independent; the model on some lists of calls.
pub mod SameBlock
pub mod LastTaken
pub mod Parties
pub mod Lists
