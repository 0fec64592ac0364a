pub mod Marks
pub mod Gathered
