-- The proofs.
mod Picking
mod Telling
