pub mod Route
pub mod Start
