-- W, N, E and S of an outline; corners as numbers; a walk by them.
pub mod Corners
pub mod parts
