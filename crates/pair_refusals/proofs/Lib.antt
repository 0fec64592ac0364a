pub mod Ladder
pub mod Times
pub mod Links
pub mod Finite
