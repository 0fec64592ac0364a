pub mod Parts
pub mod Steps
pub mod Standing
pub mod Leaving
pub mod Row
pub mod Converting
