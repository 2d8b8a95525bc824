-- Three cells that prove that a cell is in the hull; which three, from the ends of the rows; the search for the lowest missing cell; what
-- one pass over the letters keeps for it; the reply of a witness call, and what it means.
pub mod Witness
pub mod Three
pub mod Gap
pub mod Witnessed
pub mod Named
pub mod parts
