-- The proofs.
pub mod Keeping
pub mod ScanAsks
pub mod ScanEnds
