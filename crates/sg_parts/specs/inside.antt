-- What only private clauses and proofs cite: no reader of a public contract need believe it.
pub mod Checks
pub mod Cutting
pub mod Filling
pub mod Reading
pub mod Taking
