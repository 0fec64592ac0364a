pub mod Taking
pub mod Leaving
pub mod Row
