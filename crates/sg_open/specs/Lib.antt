-- The modules of definitions.
pub mod Opened
pub mod inside
