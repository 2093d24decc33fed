-- What only private clauses and proofs cite: no reader of a public contract need believe it.
pub mod Blank
pub mod Reads
pub mod Sizes
pub mod Steps
pub mod Tables
