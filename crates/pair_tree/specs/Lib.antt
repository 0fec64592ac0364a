pub mod Places
pub mod Flat
pub mod Words
pub mod Rows
