pub mod Regions
pub mod Listing
pub mod Putting
pub mod Cases
pub mod Runs
