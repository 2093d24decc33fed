-- The modules of definitions.
pub mod Audit
pub mod Promise
