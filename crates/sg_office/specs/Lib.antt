-- The modules of definitions.
pub mod Acts
pub mod inside
