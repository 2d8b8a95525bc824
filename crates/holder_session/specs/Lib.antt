-- Exported calls in any mixture on one memory; what the plain book has for them; one reply among many; one party's events; the rows that
-- the arrays keep.
pub mod Session
pub mod Booked
pub mod Replied
pub mod Own
pub mod Rows
