pub mod Grouping
pub mod WalkedParts
pub mod Walking
pub mod Joining
