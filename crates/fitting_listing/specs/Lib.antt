-- The numbers of the faults, the lines of a fitting file, the bytes of records, what a listing leaves in a buffer, and what the theorems
-- are about.
pub mod Faults
pub mod Lines
pub mod Bytes
pub mod Listed
pub mod Claims
