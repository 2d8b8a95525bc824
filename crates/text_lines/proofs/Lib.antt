-- The laws of texts and of writing them.
pub mod TextLaws
pub mod WrittenLaws
