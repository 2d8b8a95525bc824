-- A slot's rows, written and read.
pub mod SlotLaws
