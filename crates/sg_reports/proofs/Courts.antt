-- The proofs.
pub mod Due
pub mod Putting
pub mod Saying
pub mod Taking
pub mod Words
