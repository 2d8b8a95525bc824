-- The numbers of the refusals; a buffer after a reply; verdicts that take; tables of replies.
pub mod RefusalLaws
pub mod ReplyLaws
pub mod TakenLaws
pub mod Tables
