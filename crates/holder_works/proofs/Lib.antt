-- The outline in a slot, case by case.
pub mod WorkCases
