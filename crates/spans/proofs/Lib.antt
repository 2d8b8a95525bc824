-- A column counted once; the sides along a row; the table is exact.
pub mod Tables
pub mod Sides
pub mod Exact
