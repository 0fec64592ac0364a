pub mod Lows
pub mod Steps
