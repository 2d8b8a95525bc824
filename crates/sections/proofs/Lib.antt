-- The lines through the ends of intervals; the sides of a triangle in a layer; a cell
-- between two segments; the hull by such lines; what the loops find of it.
pub mod Lines
pub mod Sides
pub mod Fan
pub mod Theorem
pub mod Folds
pub mod Quotients
pub mod Decides
pub mod Specimens
