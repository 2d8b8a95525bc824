-- The laws of the pass up a side, and of the search for the lowest row.
pub mod Laws
