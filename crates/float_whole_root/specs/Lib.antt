pub mod Near
pub mod Guess
