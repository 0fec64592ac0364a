pub mod Map
pub mod Keys
pub mod Tells
