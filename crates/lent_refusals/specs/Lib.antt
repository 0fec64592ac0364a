pub mod Tests
pub mod Admitted
