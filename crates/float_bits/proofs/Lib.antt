-- What the proofs of this crate's functions share, and the laws of a float kept as its bits.
mod Patterns
pub mod Equal
pub mod Kept
