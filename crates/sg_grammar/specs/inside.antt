-- What only private clauses, the models and proofs cite. Nobody need believe it.
pub mod Expecting
