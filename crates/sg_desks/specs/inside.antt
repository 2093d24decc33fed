-- Definitions that only the proofs need.
pub mod Races
