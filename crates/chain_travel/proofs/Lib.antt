pub mod Laying
pub mod Values
pub mod Lists
pub mod Marks
pub mod Joining
pub mod Travel
pub mod Lent
pub mod Examples
