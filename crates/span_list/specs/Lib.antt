-- The rows of several outlines side by side in one list.
pub mod SpanList
