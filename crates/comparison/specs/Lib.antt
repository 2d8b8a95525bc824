-- The reply of a comparison and what its words say; taken outlines compared; the lists exchanged; the rows.
pub mod Compared
pub mod Outlines
pub mod Exchanged
pub mod parts
