-- First lines and rows, then one side of a hull and its mirror image, then the search, then the laws that the code uses.
pub mod Line
pub mod Rows
pub mod Side
pub mod Mirror
pub mod Gaps
pub mod SearchLaws
pub mod TangentLaws
pub mod RowLaws
