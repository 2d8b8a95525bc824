-- A section by the intervals of its layers, and whether it is convex.
pub mod Sections
