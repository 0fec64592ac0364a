pub mod Good
pub mod Walks
