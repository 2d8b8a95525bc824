-- Dents and edges of the pieces.
pub mod parts
