-- What only private clauses and proofs cite. Nobody need believe it.
pub mod Counts
pub mod Passing
pub mod Telling
pub mod Finding
