pub mod Handed
pub mod inside
