-- The letters of a piece, and the pieces, up to the first back-step.
pub mod BackStepLaws
