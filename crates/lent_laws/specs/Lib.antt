pub mod Passes
pub mod Good
pub mod Lent
