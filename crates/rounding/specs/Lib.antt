-- A float's value as a whole number of units.
pub mod Units
