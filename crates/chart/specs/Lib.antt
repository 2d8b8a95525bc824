-- Limits, outlines, the numbers of the refusals, and replies in seven fields.
pub mod Limits
pub mod Outline
pub mod Refusals
pub mod Taken
pub mod Fields
pub mod Same
