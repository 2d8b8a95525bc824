-- What a call as bytes leaves and returns.
pub mod Responded
