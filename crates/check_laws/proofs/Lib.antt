pub mod Tests
pub mod Rows
pub mod Common
pub mod Points
pub mod Ways
pub mod Going
pub mod Choosing
pub mod Iterating
