-- The steps of a frame; the factors of one word; the four pieces.
pub mod FrameSizes
pub mod WordLaws
pub mod DentLaws
