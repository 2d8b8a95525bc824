-- Which way an outline is read, and the cut places of its border.
pub mod parts
