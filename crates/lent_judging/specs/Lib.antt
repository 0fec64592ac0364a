pub mod Judging
pub mod Front
