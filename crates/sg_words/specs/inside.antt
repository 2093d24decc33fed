-- What the table of the code means. Only clauses of private functions and proofs cite this.
pub mod Table
