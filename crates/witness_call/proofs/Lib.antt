-- The reply and the buffer, case by case.
pub mod Laws
