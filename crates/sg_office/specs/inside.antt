-- What only private clauses cite. Nobody need believe it.
pub mod Now
pub mod Ready
pub mod Runs
