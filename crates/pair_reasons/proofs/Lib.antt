pub mod Sorting
pub mod Places
pub mod Tests
pub mod Telling
pub mod Calls
