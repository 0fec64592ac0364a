pub mod Bare
pub mod Riding
pub mod Earlier
pub mod Building
pub mod Examples
