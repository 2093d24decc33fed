-- What only proofs cite. Nobody need believe it.
pub mod RowReading
