-- The proofs.
pub mod Judging
pub mod Saying
