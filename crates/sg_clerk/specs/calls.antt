-- The modules of definitions.
pub mod Calls
pub mod Laws
pub mod Says
pub mod Serves
pub mod inside
