pub mod Steps
pub mod Passing
pub mod Beginning
pub mod Advancing
pub mod Choosing
