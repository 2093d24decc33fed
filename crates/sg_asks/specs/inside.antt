-- What only private clauses cite. Nobody need believe it.
pub mod Reading
pub mod Pieces
