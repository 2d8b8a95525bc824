-- The loose query, extremes, two consecutive edges, specimens.
pub mod Loose
pub mod Specimens
pub mod parts
