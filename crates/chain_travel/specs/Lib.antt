pub mod Travel
