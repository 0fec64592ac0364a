-- The laws of the heap: its first candidate.
pub mod Top
