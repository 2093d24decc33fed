-- The proofs.
pub mod Judging
pub mod Promises
pub mod Reading
pub mod Saying
