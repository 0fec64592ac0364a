pub mod Near
pub mod Row
