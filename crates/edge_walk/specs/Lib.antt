-- The walk along edges.
pub mod parts
