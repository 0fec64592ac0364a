pub mod Parts
pub mod First
pub mod Second
pub mod Rounds
pub mod Laying
pub mod Twice
pub mod Boxes
pub mod Built
