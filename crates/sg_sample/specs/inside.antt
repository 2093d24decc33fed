-- What only private clauses cite. Nobody need believe it.
pub mod Judging
pub mod Sealed
pub mod Voting
