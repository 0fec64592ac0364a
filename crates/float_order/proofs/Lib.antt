-- The laws of the order of floats, of products and sums in it, of ranks and of keys.
pub mod Order
pub mod Mono
pub mod Near
pub mod Dot
pub mod Ranks
pub mod Keys
pub mod Pick
