-- The modules of definitions.
pub mod Reports
pub mod audit
pub mod county
pub mod court
pub mod inside
