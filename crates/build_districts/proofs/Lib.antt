pub mod Calls
pub mod Shares
pub mod Door
pub mod Examples
