pub mod Box
pub mod Search
pub mod Reading
