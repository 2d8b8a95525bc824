-- Halves are exact; the walk to a position; the command at each position; points and corner cells; outlines; a pair in a buffer; replies;
-- specimens.
pub mod Halves
pub mod Walks
pub mod Positions
pub mod Corners
pub mod Outlines
pub mod Points
pub mod Named
pub mod Specimens
