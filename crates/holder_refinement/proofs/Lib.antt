-- Drafts and works that represent the model's, and what each call does to them; the list theorem; parties; what is kept at
-- any instant.
pub mod Drafts
pub mod Works
pub mod Actions
pub mod Sizes
pub mod Keeps
pub mod Turns
pub mod ListTheorem
pub mod Restores
pub mod Parties
pub mod Drafting
pub mod Unaltered
pub mod Apart
pub mod Numbers
