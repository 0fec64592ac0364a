pub mod Extents
pub mod Points
mod Fours
mod Raised
mod Stacked
