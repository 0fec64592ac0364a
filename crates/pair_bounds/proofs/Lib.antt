-- The laws of boxes, of the disk, and of the search over a tree of boxes.
pub mod Union
pub mod Round
pub mod Disk
pub mod Apart
pub mod Bound
pub mod Search
pub mod Reading
