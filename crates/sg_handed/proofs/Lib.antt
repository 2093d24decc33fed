-- The proofs.
mod Ends
