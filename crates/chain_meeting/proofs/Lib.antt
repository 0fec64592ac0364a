pub mod Listing
pub mod Collecting
pub mod Ends
