-- The layers of a pile in one list of bytes, and the rows of each layer that have a cell.
pub mod Layers
pub mod parts
