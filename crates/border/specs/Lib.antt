-- What is still to be written, and what writing does to the buffer.
pub mod parts
