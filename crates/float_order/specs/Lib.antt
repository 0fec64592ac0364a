pub mod Rank
pub mod Key
