pub mod Two
pub mod Orders
