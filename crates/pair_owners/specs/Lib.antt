pub mod Tables
pub mod Owners
pub mod Angles
