-- The ordered letters of the pieces, and where the pieces lie in a list of letters.
pub mod parts
