-- The test in terms of the verdict.
pub mod TestLaws
