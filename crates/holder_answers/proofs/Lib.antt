-- The cases of the definitions; the cell of a close's reply; what the replies to readings and pieces say.
pub mod Cases
pub mod CloseLaws
pub mod AskLaws
