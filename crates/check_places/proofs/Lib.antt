pub mod Reading
pub mod Stretching
pub mod Scanning
pub mod Filling
