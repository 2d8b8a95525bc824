-- Numbers that are not a call's.
pub mod CallLaws
