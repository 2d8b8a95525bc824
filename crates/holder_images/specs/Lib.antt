-- Places that are whole, and what a check, a save and a restore reply and leave.
pub mod Whole
pub mod Arrays
pub mod parts
