pub mod Arms
pub mod Turns
pub mod Alone
pub mod Rounds
