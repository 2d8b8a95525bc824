-- Which outlines have an anchor and edges; the cases of a border call, and what its reply
-- says; from a taken outline and back; the order of its edges; specimens.
pub mod Outlines
pub mod Tested
pub mod TracedCases
pub mod Own
pub mod Quadrants
pub mod Specimens
