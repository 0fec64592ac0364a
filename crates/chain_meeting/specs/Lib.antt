pub mod Map
pub mod Meeting
