-- What the search for the first back-step finds.
pub mod parts
