-- The cut places rise; the pieces lie between them.
pub mod CutLaws
pub mod LaidLaws
