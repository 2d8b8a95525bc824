-- Places that are whole, saved and restored.
pub mod RestoreLaws
pub mod WholeLaws
pub mod CheckLaws
pub mod Meaning
