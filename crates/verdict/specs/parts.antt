-- What the functions of the test promise each other: nothing here needs to be believed.
pub mod Chain
