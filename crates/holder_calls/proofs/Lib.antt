-- Questions.
pub mod Questions
