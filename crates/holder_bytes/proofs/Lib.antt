-- Bytes as a call, and the call of each number.
pub mod ByteLaws
