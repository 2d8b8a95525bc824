-- The judgement of an outline; then what the functions of src/ promise each other.
pub mod Judged
pub mod parts
