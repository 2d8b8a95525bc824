-- Refusals 8 and 9 and the edges of a border; the judgement of an outline.
pub mod PieceLaws
pub mod JudgedLaws
