-- The proofs.
pub mod Pieces
