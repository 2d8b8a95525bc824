-- What the functions of the crate promise each other: nothing here needs to be believed.
pub mod BySides
pub mod Written
