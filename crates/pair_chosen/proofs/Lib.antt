-- What the indexed route asks, from the scan of the directions.
pub mod Asking
