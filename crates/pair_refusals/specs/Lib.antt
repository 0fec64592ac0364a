pub mod Linked
pub mod Ladder
