pub mod Untouched
pub mod Listed
pub mod Joining
