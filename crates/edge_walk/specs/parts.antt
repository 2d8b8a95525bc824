-- What the functions of the crate promise: nothing here needs to be believed.
pub mod Walk
