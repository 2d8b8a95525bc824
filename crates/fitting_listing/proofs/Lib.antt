-- The laws and the theorems of a fitting file's lines.
pub mod LinesLaws
pub mod Files
pub mod Whole
pub mod Theorems
mod EveryLine
mod Parts
mod Moved
mod Cases
mod ListingLaws
