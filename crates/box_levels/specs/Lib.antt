pub mod Extents
pub mod Lying
