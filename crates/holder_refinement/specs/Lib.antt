-- What the plain book says of a draft; stores into the arrays.
pub mod Told
pub mod Stores
