-- The laws of the set.
pub mod FlagLaws
