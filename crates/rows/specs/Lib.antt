-- The search for the lowest missing cell, and what the arrays of the code hold.
pub mod Search
pub mod parts
