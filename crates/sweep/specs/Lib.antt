-- The columns of each row by one pass along the edges; two polygons compared row by row.
pub mod parts
