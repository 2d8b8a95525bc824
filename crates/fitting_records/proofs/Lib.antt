-- The laws of a fitting file's records, and of the steps over them.
mod FoundLaws
pub mod RecordLaws
