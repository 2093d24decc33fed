-- The proofs.
pub mod Cut
pub mod Forms
pub mod Starting
mod Stops
pub mod Telling
