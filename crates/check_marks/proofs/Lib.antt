pub mod Sets
pub mod Moving
pub mod Meets
pub mod Fresh
pub mod Trimming
