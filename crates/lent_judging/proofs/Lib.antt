pub mod Counts
pub mod Lines
pub mod Single
pub mod Pieces
pub mod All
pub mod Front
