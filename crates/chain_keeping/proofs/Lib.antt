pub mod Alone
pub mod Keeping
