pub mod Blocks
pub mod Ends
