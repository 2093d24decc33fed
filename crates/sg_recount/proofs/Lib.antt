-- The proofs of a recount.
pub mod Bounding
pub mod Counting
pub mod Each
pub mod Facing
pub mod Halving
pub mod Repeated
