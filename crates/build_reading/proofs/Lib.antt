pub mod Reading
pub mod Calls
pub mod Points
pub mod Windows
