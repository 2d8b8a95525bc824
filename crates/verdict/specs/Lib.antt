-- The verdict, dented outlines, the cell in a reply, the rule in terms of factors and Christoffel words, the specimens.
pub mod Verdict
pub mod Dents
pub mod Named
pub mod Drawn
pub mod Rule
pub mod Specimens
pub mod parts
