pub mod Records
pub mod Judging
pub mod Ladder
