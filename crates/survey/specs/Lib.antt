-- Refusals 1 to 6 as one answer, with the corners of an outline that passes them.
pub mod Survey
