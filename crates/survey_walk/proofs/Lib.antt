-- The laws of the walk's numbers, of the corners met and of those kept.
pub mod CheckLaws
pub mod NumberLaws
pub mod WalkLaws
pub mod MetLaws
pub mod KeptLaws
pub mod AlongLaws
