-- What only private clauses and proofs cite: no reader of a public contract need believe it.
pub mod BySide
