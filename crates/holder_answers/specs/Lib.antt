-- What each call does to a holder in four arrays, and lists of calls.
pub mod Arrays
pub mod Run
