-- Functions of a letter; walks and their rotations; jumps across sides; cells to the right
-- of a walk; walks that stay on the chart; the simplest outlines.
pub mod Letters
pub mod WalkLaws
pub mod Jumps
pub mod RightHand
pub mod Staying
pub mod HullLaws
