-- Integers by their signs; edges step by step; refusal 16, edge by edge; the loose query by cases, and what its words say; the lists of
-- taken outlines; cells of the chart; specimens.
pub mod Integers
pub mod Spans
pub mod Turns
pub mod LooseCases
pub mod LooseHull
pub mod Taken
pub mod OnChart
pub mod Specimens
