mod Numbers
pub mod Ladders
pub mod Calls
pub mod Demand
pub mod Districts
