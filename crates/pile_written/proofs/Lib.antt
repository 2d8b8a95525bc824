-- From a reply to its seven numbers.
pub mod WrittenLaws
