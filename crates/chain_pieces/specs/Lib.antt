pub mod Map
pub mod Held
pub mod Compact
