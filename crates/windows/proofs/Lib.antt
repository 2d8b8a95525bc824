-- Values and windows under stores and copies; lists filled with one number.
pub mod Slots
pub mod Fills
