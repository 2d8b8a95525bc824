-- Lines of three numbers as text, and what writing a text leaves in a buffer.
pub mod Text
pub mod Written
