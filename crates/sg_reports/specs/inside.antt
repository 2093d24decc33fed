-- How the code goes on. Only clauses of private functions and proofs cite this.
pub mod Judging
pub mod Standing
