pub mod Numbers
pub mod Records
pub mod Runs
pub mod Lines
pub mod Calls
