-- What only private clauses and proofs cite. Nobody need believe it.
pub mod Shown
pub mod Steps
pub mod Two
