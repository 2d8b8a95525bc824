-- What a walk is and what it encloses: steps and corners, refusals 1 to 6, walks that pass them, enclosed cells, the hull.
pub mod Chart
pub mod Refusals
pub mod Walked
pub mod Enclosed
pub mod Hull
