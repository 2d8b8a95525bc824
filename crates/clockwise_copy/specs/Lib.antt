-- The letters of an outline from W on, clockwise, and their places in the list as sent.
pub mod parts
