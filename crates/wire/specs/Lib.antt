-- One call as bytes.
pub mod Wire
