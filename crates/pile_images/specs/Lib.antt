-- What a set and a set empty leave in a layer; a save of it.
pub mod Left
pub mod Saved
pub mod parts
