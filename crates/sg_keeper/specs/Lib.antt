-- The modules of definitions.
pub mod Keeping
pub mod Laws
pub mod Rows
pub mod SetupText
pub mod inside
