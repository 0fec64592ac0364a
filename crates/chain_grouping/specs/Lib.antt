pub mod Map
pub mod Group
