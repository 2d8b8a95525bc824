-- Restores of any bytes, and their first half; damaged images; save and restore; what a check notices.
pub mod Restored
pub mod Halves
pub mod Damage
pub mod SaveRestore
pub mod Noticed
pub mod Tidy
pub mod Checked
