pub mod Cells
pub mod Runs
pub mod Pieces
pub mod Walks
pub mod Rounds
pub mod Accepted
pub mod Records
pub mod Built
