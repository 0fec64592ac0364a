pub mod Zeros
pub mod Values
pub mod Cells
pub mod Grids
pub mod Examples
