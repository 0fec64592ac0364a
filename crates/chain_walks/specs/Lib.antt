pub mod Map
pub mod Walks
