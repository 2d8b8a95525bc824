-- Sections with equal lists, what the test of a section says, and what the first that fails it means.
pub mod CutLaws
pub mod RunLaws
pub mod CheckLaws
