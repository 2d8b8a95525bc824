-- The cases of the definitions.
pub mod Cases
pub mod StepCases
