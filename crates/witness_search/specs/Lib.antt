-- What the pass over the rows finds.
pub mod parts
