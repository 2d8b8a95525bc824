-- Windows of a list, and the values in consecutive windows.
pub mod Windows
