pub mod Cut
pub mod Heads
pub mod Go
pub mod Starts
