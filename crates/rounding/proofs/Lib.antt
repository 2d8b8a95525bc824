-- Computed units; rounding of one fraction; values in units; a difference, a product by a whole number, a whole number as a float, and
-- the same over the integers; order of values; whole numbers in units.
pub mod Checked
pub mod Round
pub mod Values
pub mod Operations
pub mod Near
pub mod Order
pub mod InUnits
