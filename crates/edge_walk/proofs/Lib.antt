-- The sizes of corner cells; a loop over the edges in a list.
pub mod Sizes
pub mod Loop
