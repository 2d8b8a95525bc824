-- Side values at a reading, exact and computed; where a reading lies; what is claimed of it; the reply and what it says; specimens; the walk.
pub mod Sides
pub mod Located
pub mod Claims
pub mod Replies
pub mod Named
pub mod Specimens
pub mod parts
