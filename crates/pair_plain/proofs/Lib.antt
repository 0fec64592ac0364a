pub mod Blockwise
pub mod Frames
pub mod Starting
pub mod Holding
pub mod Turns
pub mod Taking
pub mod Stale
pub mod Route
