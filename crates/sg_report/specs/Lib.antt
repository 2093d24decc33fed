-- The modules of definitions.
pub mod Report
