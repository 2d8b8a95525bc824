-- A section filled layer by layer; a layer read from the list; the rows that a search may skip; the search for a dented section.
pub mod FillLaws
pub mod LayerLaws
pub mod ReachLaws
pub mod SearchLaws
