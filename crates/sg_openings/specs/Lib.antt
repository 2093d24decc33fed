pub mod Openings
pub mod inside
