pub mod Copies
pub mod Writing
pub mod Answers
