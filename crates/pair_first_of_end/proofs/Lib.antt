pub mod Measures
pub mod Walk
