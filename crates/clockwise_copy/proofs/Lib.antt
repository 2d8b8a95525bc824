-- Parts of a list, one behind the other.
pub mod CopyLaws
