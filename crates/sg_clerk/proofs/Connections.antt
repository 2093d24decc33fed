-- The proofs.
pub mod Growing
pub mod Going
pub mod Keeping
pub mod ServeEnds
