pub mod Tests
pub mod Clauses
pub mod Plain
pub mod Passing
pub mod Places
pub mod Round
pub mod Fitting
