pub mod Cells
pub mod Laid
pub mod Listed
pub mod Outer
