-- The laws of scans over ends, of the box around their directions, and of nodes where no pair qualifies.
pub mod Scan
pub mod Box
pub mod Nothing
