pub mod Ranked
pub mod Sets
pub mod Owners
pub mod Taking
pub mod Ends
pub mod Settled
pub mod Demand
