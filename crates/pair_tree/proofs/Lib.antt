-- The laws of a tree in a row of nodes, and of the words that a store leaves.
pub mod Flat
pub mod Words
pub mod Order
pub mod Rows
pub mod Stores
