-- The proofs of facts.
pub mod Facts
pub mod Finding
pub mod Rising
pub mod Sections
pub mod Tabling
pub mod Totals
