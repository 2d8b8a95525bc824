-- Which outlines have an anchor and edges, what a border call replies, and what the reply says.
pub mod Outlined
pub mod Traced
pub mod Named
pub mod Specimens
pub mod parts
