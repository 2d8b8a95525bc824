-- The first refusal that applies.
pub mod SurveyLaws
