-- The laws of the index: the search over it, and the pair that the search finds.
pub mod Bounding
pub mod Steps
pub mod Leaves
pub mod Candidates
pub mod Book
pub mod Owner
